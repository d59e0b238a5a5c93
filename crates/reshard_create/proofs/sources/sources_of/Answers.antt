use Rattle.std.proofs.Common.{◌+◌, rules, refl, sym, ◌∙◌}
use Rattle.shard.proofs.Progress.{take_whole}
use Rattle.reshard_cutover.proofs.Moves.{at_some, at_not_some}
use Rattle.reshard_cutover.proofs.Onward.{still, onward_trans}
use Rattle.reshard_create.specs.Begun.{IsAway}
use Rattle.reshard_create.proofs.SeenShards.{has_since}
use Rattle.reshard_create.proofs.Making.{picked_next, served_next}
use Rattle.reshard_create.proofs.Looking.{none_yet, all_next, first_parts, whole_parts}
use Rattle.reshard_create.proofs.sources.sources_of.Goals as goal

pub loop-part-init : goal.loop-part-init
loop-part-init g c =
    let none = none_yet g.W.World.opening c.args.pass.now c.args.keyspace c.args.parts.now c.args.pass.now refl in
    let on = still g.W.World.opening c.args.pass.now c.requires.legal in
    search (rules, none, on)

pub loop-part-preserved : goal.loop-part-preserved
loop-part-preserved g c =
    let o = g.W.World.opening in
    let picked = at_some _ _ c.in_ok-member.field-0 c.in-Some.member c.in-Some.is c.in_ok-member.ensures.found in
    let w = picked_next (λ s. s.member.which) o c.args.pass.now c.loop-part.pass c.source_of.new.pass c.args.keyspace c.args.parts.now c.loop-part.part-index
    c.part-item.result c.loop-part.sources.items c.push.new.self.items _ c.loop-part-test.true c.part-item.is c.requires.home c.in_ok-push.ensures.items
    picked c.loop-part.invariant.seats c.loop-part.invariant.home in
    record {
      onward = onward_trans o c.args.pass.now c.loop-part.pass c.source_of.new.pass c.loop-part.invariant.onward c.source_of.ensures.onward;
      seats = w.0;
      home = w.1;
      served =
          served_next (λ s. s.member.which) o c.args.pass.now c.loop-part.pass c.source_of.new.pass c.args.keyspace c.args.parts.now c.loop-part.part-index
          c.part-item.result c.loop-part.sources.items c.push.new.self.items _ c.in_ok-push.ensures.items c.loop-part.invariant.onward.later
          c.source_of.ensures.onward.later picked c.loop-part.invariant.served;
      all = all_next g.W.World.opening c.args.pass.now c.args.keyspace c.args.parts.now c.loop-part.part-index c.part-item.result c.loop-part-test.true c.part-item.is
          c.loop-part.pass c.source_of.new.pass c.loop-part.invariant.onward.later c.source_of.ensures.onward.later c.source_of.ensures.seen c.source_of.ensures.looked
          c.loop-part.invariant.all;
    }

pub returns-in_err-member-clause-looked : goal.returns-in_err-member-clause-looked
returns-in_err-member-clause-looked g c =
    first_parts g.W.World.opening c.args.pass.now c.args.keyspace c.args.parts.now (c.loop-part.part-index + 1) c.source_of.new.pass
    (all_next g.W.World.opening c.args.pass.now c.args.keyspace c.args.parts.now c.loop-part.part-index c.part-item.result c.loop-part-test.true c.part-item.is
    c.loop-part.pass c.source_of.new.pass c.loop-part.invariant.onward.later c.source_of.ensures.onward.later c.source_of.ensures.seen c.source_of.ensures.looked
    c.loop-part.invariant.all)

pub returns-in_default-clause-looked : goal.returns-in_default-clause-looked
returns-in_default-clause-looked g c =
    first_parts g.W.World.opening c.args.pass.now c.args.keyspace c.args.parts.now (c.loop-part.part-index + 1) c.source_of.new.pass
    (all_next g.W.World.opening c.args.pass.now c.args.keyspace c.args.parts.now c.loop-part.part-index c.part-item.result c.loop-part-test.true c.part-item.is
    c.loop-part.pass c.source_of.new.pass c.loop-part.invariant.onward.later c.source_of.ensures.onward.later c.source_of.ensures.seen c.source_of.ensures.looked
    c.loop-part.invariant.all)

pub returns-in_err-push-clause-looked : goal.returns-in_err-push-clause-looked
returns-in_err-push-clause-looked g c =
    first_parts g.W.World.opening c.args.pass.now c.args.keyspace c.args.parts.now (c.loop-part.part-index + 1) c.source_of.new.pass
    (all_next g.W.World.opening c.args.pass.now c.args.keyspace c.args.parts.now c.loop-part.part-index c.part-item.result c.loop-part-test.true c.part-item.is
    c.loop-part.pass c.source_of.new.pass c.loop-part.invariant.onward.later c.source_of.ensures.onward.later c.source_of.ensures.seen c.source_of.ensures.looked
    c.loop-part.invariant.all)

pub returns-clause-looked : goal.returns-clause-looked
returns-clause-looked g c =
    first_parts g.W.World.opening c.args.pass.now c.args.keyspace c.args.parts.now c.loop-part.part-index c.loop-part.pass c.loop-part.invariant.all

pub returns-clause-all : goal.returns-clause-all
returns-clause-all g c some =
    whole_parts g.W.World.opening c.args.pass.now c.args.keyspace c.args.parts.now c.loop-part.part-index c.loop-part.pass c.loop-part-test.false
    c.loop-part.invariant.all

pub returns-in_default-clause-found : goal.returns-in_default-clause-found
returns-in_default-clause-found g c = (
  c.part-item.result,
  (c.loop-part.part-index, c.loop-part-test.true, sym c.part-item.is),
  has_since g.W.World.opening c.args.pass.now c.loop-part.pass c.source_of.new.pass c.args.keyspace IsAway c.part-item.result c.loop-part.invariant.onward.later
      (at_not_some _ _ c.in_ok-member.field-0 c.in_default.not-Some c.in_ok-member.ensures.found),
  c.source_of.ensures.ends,
)

pub returns-clause-found : goal.returns-clause-found
returns-clause-found g c = (
  c.loop-part.invariant.seats ∙ take_whole c.loop-part.part-index c.args.parts.now c.loop-part-test.false,
  c.loop-part.invariant.home,
)
