use Rattle.reshard.specs.Cutover as cut
use Rattle.reshard_create.proofs.Onward.{still, onward_trans}
use Rattle.reshard.proofs.Switches.{on_refusal}
use Rattle.reshard.proofs.keeping_up.come_level.Goals as goal

pub loop-init : goal.loop-init
loop-init g c = record {
  next = tt;
  finite = tt;
  onward = still g.W.World.opening c.args.pass.now c.requires.legal;
  further = cut.unmoved;
}

pub returns-in-Level-clause-further : goal.returns-in-Level-clause-further
returns-in-Level-clause-further g c = cut.moved c.loop.invariant.further c.in_ok-move_first.ensures.once

pub returns-then-left-le1-clause-further : goal.returns-then-left-le1-clause-further
returns-then-left-le1-clause-further g c = cut.moved c.loop.invariant.further c.in_ok-move_first.ensures.once

pub loop-preserved-in-Copied : goal.loop-preserved-in-Copied
loop-preserved-in-Copied g c = record {
  next = tt;
  finite = tt;
  onward =
      onward_trans g.W.World.opening c.args.pass.now c.loop.pass c.move_first.new.pass c.loop.invariant.onward c.move_first.ensures.onward;
  further = cut.moved c.loop.invariant.further c.in_ok-move_first.ensures.once;
}

pub loop-preserved : goal.loop-preserved
loop-preserved g c = record {
  next = tt;
  finite = tt;
  onward =
      onward_trans g.W.World.opening c.args.pass.now c.loop.pass c.move_first.new.pass c.loop.invariant.onward c.move_first.ensures.onward;
  further = cut.moved c.loop.invariant.further c.in_ok-move_first.ensures.once;
}

pub returns-in_err-move_first-clause-until : goal.returns-in_err-move_first-clause-until
returns-in_err-move_first-clause-until g c =
    on_refusal c.from_residual.result _
    (record { last = c.loop.pass; moves = c.loop.invariant.further; refused = c.in_err-move_first.ensures.nothing })
