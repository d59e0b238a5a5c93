use Rattle.follow.specs.Turns as turns
use Rattle.follow.proofs.Turns.{one_more_turn, all_took_turns}
use Rattle.reshard_cutover.specs.Looks.{HasThawed}
use Rattle.reshard_cutover.proofs.Onward.{still, onward_trans}
use Rattle.reshard_cutover.proofs.Thaws.{again_next}
use Rattle.reshard_cutover.proofs.thawing.unfreeze_all.Goals as goal

pub loop-source-init : goal.loop-source-init
loop-source-init g c =
    record { onward = still g.W.World.opening c.args.pass.now c.requires.legal; serve = tt; thawed = turns.none }

pub loop-source-preserved : goal.loop-source-preserved
loop-source-preserved g c =
    let o = g.W.World.opening in
    let is = c.unfreeze.ensures.thawed in
    record {
      onward = onward_trans o c.args.pass.now c.loop-source.pass c.unfreeze.new.pass c.loop-source.invariant.onward is.onward;
      serve =
          again_next (λ s. s.member.which) o c.args.pass.now c.loop-source.pass c.unfreeze.new.pass c.args.sources.now c.loop-source.source-index
          c.source-item.result c.loop-source-test.true c.source-item.is c.loop-source.invariant.onward is.onward is.serving c.loop-source.invariant.serve;
      thawed =
          one_more_turn (λ s. s.member.which) c.args.sources.now c.loop-source.source-index c.source-item.result c.loop-source-test.true c.source-item.is
          (HasThawed o) c.args.pass.now c.loop-source.pass c.unfreeze.new.pass c.loop-source.invariant.thawed is;
    }

pub returns-clause-thawed : goal.returns-clause-thawed
returns-clause-thawed g c =
    all_took_turns (λ s. s.member.which) c.args.sources.now c.loop-source.source-index c.loop-source-test.false (HasThawed g.W.World.opening)
    c.args.pass.now c.loop-source.pass c.loop-source.invariant.thawed
