use Rattle.std.proofs.Common.{◌≡◌, ◌+◌, ◌<◌, ◌-◌, length, arith, ap, ◌∙◌, rules}
use Rattle.std.proofs.lemmas.Grind.{common_steps}
use Rattle.admin.proofs.router.Empty.{first_seats, one_less, seats_from}
use Rattle.admin.proofs.router.setup.empty_shards.Goals as goal

pub loop-shard-preserved : goal.loop-shard-preserved
loop-shard-preserved g c = record {
  seats =
      let i = c.loop-shard.shard-index in
      let below = c.loop-shard-test.true in
      let n = length c.args.shards.now in
      let left : 0 < n - i = omega (arith, below) in
      let next : (n - i) - 1 ≡ n - (i + 1) = omega arith in
      one_less i (n - i) _ _ c.next.result c.unwrap-seat.result c.loop-shard.invariant.seats left c.next.ensures.items c.unwrap-seat.ensures
      ∙ ap (seats_from (i + 1)) next;
  held = grind (arith, common_steps);
}

pub loop-shard-init : goal.loop-shard-init
loop-shard-init g c = record {
  seats =
      let n = length c.args.shards.now in
      let all : n ≡ n - 0 = omega arith in
      c.into_iter-seats.ensures.rest ∙ c.requires.seats ∙ first_seats 0 n 64 c.requires.few ∙ ap (seats_from 0) all;
  held = search rules;
}
