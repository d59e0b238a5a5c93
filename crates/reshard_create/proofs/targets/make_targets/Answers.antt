use Rattle.std.proofs.Common.{◌≡◌, ℕ, ◌+◌, List, [], map, ap, ◌∙◌, arith}
use Rattle.shard_run.specs.declared.ShardRecord.{ShardRecord}
use Rattle.reshard_create.specs.split.Splits.{AreOverlapped}
use Rattle.reshard_cutover.proofs.Retiring.{item_of}
use Rattle.reshard_create.proofs.Making.{made_next, seats_next}
use Rattle.reshard_create.proofs.Seats.{taken_next}
use Rattle.reshard_create.proofs.targets.make_targets.Goals as goal

pub make_target-requires-clause-covered : goal.make_target-requires-clause-covered
make_target-requires-clause-covered g c =
    item_of (λ r. (own : List ShardRecord) → AreOverlapped (map (λ s. s.member.which) c.args.sources.now) r own → own ≡ [] → ⊥) c.args.ranges.now c.loop-range.range-index
    c.range-item.result c.loop-range-test.true c.range-item.is c.requires.covered

pub loop-range-preserved : goal.loop-range-preserved
loop-range-preserved g c =
    let a = c.loop-range.invariant.room in
    let b = c.make_target.ensures.room in
    let d = c.loop-range.invariant.space in
    let e = c.in_ok-push-in-Ok.ensures.capacity in
    let w = made_next (λ t. (t.member.which, map (λ s. s.which) t.sources.items)) (map (λ s. s.member.which) c.args.sources.now) c.args.config.keyspace c.args.ranges.now
    c.loop-range.range-index c.range-item.result c.loop-range.made.items c.push.new.self.items c.in-Ok.target c.loop-range-test.true c.range-item.is
    c.in_ok-push-in-Ok.ensures.items c.loop-range.invariant.ranges c.loop-range.invariant.made c.in-Ok.ensures.target in
    record {
      free = c.make_target.ensures.free;
      slots =
          taken_next (λ s. s.slot) (λ t. t.member.which.slot) _ c.loop-range.free.items c.make_target.new.free.items c.loop-range.made.items c.push.new.self.items
          c.in-Ok.target c.loop-range.invariant.slots c.in-Ok.ensures.taken c.in_ok-push-in-Ok.ensures.items;
      room = omega (arith, a, b);
      count = c.in_ok-push-in-Ok.ensures.len ∙ ap (λ (n : ℕ). n + 1) c.loop-range.invariant.count;
      space = omega (arith, d, e);
      ranges = w.0;
      seats =
          seats_next (λ t. t.member.shard.value) (λ t. (t.member.which, map (λ s. s.which) t.sources.items)) c.loop-range.made.items c.push.new.self.items
          c.in-Ok.target c.in_ok-push-in-Ok.ensures.items c.loop-range.invariant.seats c.in-Ok.ensures.seat;
      made = w.1;
    }
