use Rattle.std.proofs.Common.{[], subst}
use Rattle.std.specs.List.{AllByRecursion}
use Rattle.shard.proofs.Progress.{take_whole}
use Rattle.shard_calls.specs.Answers.{WasFound}
use Rattle.shard_calls.proofs.Finding.{look_gone, found_next}
use Rattle.shard_calls.proofs.Gathers.{stays}
use Rattle.shard_calls.proofs.parts.look_at_each.Goals as goal

pub loop-part-init : goal.loop-part-init
loop-part-init g c = record { gone = ([], stays _ _ c.requires.legal); found = tt }

pub loop-part-preserved : goal.loop-part-preserved
loop-part-preserved g c =
    let o = g.W.World.opening in
    let is = rw c.shard_of.ensures at c.look.ensures.look in
    let past = rw c.shard_of.ensures at c.look.ensures.past in
    record {
      gone = look_gone o c.part-item.result.0 c.args.pass.now c.loop-part.pass c.look.new.pass c.loop-part.invariant.gone is.4;
      found =
          found_next o c.args.pass.now c.loop-part.pass c.look.new.pass c.args.parts.now c.loop-part.part-index c.part-item.result c.loop-part-test.true c.part-item.is
          c.loop-part.invariant.gone.1.later is.4 is.0 is.1 is.2 is.3 past c.loop-part.invariant.found;
    }

pub returns-clause-found : goal.returns-clause-found
returns-clause-found g c =
    subst (AllByRecursion (WasFound g.W.World.opening c.args.pass.now.seen c.loop-part.pass.seen))
    (take_whole c.loop-part.part-index c.args.parts.now c.loop-part-test.false) c.loop-part.invariant.found
