use Rattle.std.proofs.Common.{◌≡◌, rules, subst}
use Rattle.follow.specs.declared.steps.Step.TheVariants.{Level}
use Rattle.follow.specs.Steps.{HasMoved}
use Rattle.follow.specs.Turns.{IsOneStep, IsNoStep}
use Rattle.follow.specs.Turns as turns
use Rattle.follow.proofs.Onward.{still, onward_trans}
use Rattle.follow.proofs.Moves.{err_as, moved_with, level_with, all_level_with}
use Rattle.follow.proofs.Turns.{one_more_turn, moves_in_turn, refused_in_turn, all_took_turns}
use Rattle.follow.proofs.steps.bring_forward_with.Goals as goal

pub bring_forward-requires-clause-legal : goal.bring_forward-requires-clause-legal
bring_forward-requires-clause-legal g c = c.loop-source.invariant.onward.legal

pub returns-in_err-step-clause-onward : goal.returns-in_err-step-clause-onward
returns-in_err-step-clause-onward g c =
    onward_trans g.W.World.opening c.args.pass.now c.loop-source.pass c.bring_forward.new.pass c.loop-source.invariant.onward c.bring_forward.ensures.onward

pub returns-then-ne-clause-onward : goal.returns-then-ne-clause-onward
returns-then-ne-clause-onward g c =
    onward_trans g.W.World.opening c.args.pass.now c.loop-source.pass c.bring_forward.new.pass c.loop-source.invariant.onward c.bring_forward.ensures.onward

pub returns-then-ne-clause-moved : goal.returns-then-ne-clause-moved
returns-then-ne-clause-moved g c =
    moved_with (λ s. s.which) g.W.World.opening c.args.target.now.which c.args.pass.now c.args.sources.now c.loop-source.source-index c.source-item.result
    c.loop-source-test.true c.source-item.is c.loop-source.pass c.bring_forward.new.pass c.loop-source.invariant.onward c.bring_forward.ensures.onward
    c.loop-source.invariant.level c.in_ok-step.step c.in_ok-step.ensures.moved

pub loop-source-preserved : goal.loop-source-preserved
loop-source-preserved g c =
    let o = g.W.World.opening in
    let same : c.in_ok-step.step ≡ Level = search rules in
    record {
      onward = onward_trans o c.args.pass.now c.loop-source.pass c.bring_forward.new.pass c.loop-source.invariant.onward c.bring_forward.ensures.onward;
      level =
          level_with (λ s. s.which) o c.args.target.now.which c.args.pass.now c.args.sources.now c.loop-source.source-index c.source-item.result
          c.loop-source-test.true c.source-item.is c.loop-source.pass c.bring_forward.new.pass c.loop-source.invariant.onward c.bring_forward.ensures.onward
          c.loop-source.invariant.level
          (subst (HasMoved o c.source-item.result.which c.args.target.now.which c.loop-source.pass c.bring_forward.new.pass) same c.in_ok-step.ensures.moved);
      once =
          one_more_turn (λ s. s.which) c.args.sources.now c.loop-source.source-index c.source-item.result c.loop-source-test.true c.source-item.is
          (λ s p q. IsOneStep s c.args.target.now.which p q Level) c.args.pass.now c.loop-source.pass c.bring_forward.new.pass c.loop-source.invariant.once
          (subst (IsOneStep c.source-item.result.which c.args.target.now.which c.loop-source.pass c.bring_forward.new.pass) same c.in_ok-step.ensures.once);
    }

pub returns-clause-onward : goal.returns-clause-onward
returns-clause-onward g c = c.loop-source.invariant.onward

pub returns-clause-moved : goal.returns-clause-moved
returns-clause-moved g c =
    all_level_with (λ s. s.which) g.W.World.opening c.args.target.now.which c.args.pass.now c.args.sources.now c.loop-source.source-index c.loop-source.pass
    c.loop-source-test.false c.loop-source.invariant.onward c.loop-source.invariant.level

pub loop-source-init : goal.loop-source-init
loop-source-init g c =
    record { onward = still g.W.World.opening c.args.pass.now c.requires.legal; level = tt; once = turns.none }

pub returns-then-ne-clause-once : goal.returns-then-ne-clause-once
returns-then-ne-clause-once g c =
    moves_in_turn (λ s. s.which) c.args.sources.now c.loop-source.source-index c.source-item.result c.loop-source-test.true c.source-item.is
    (λ s. IsOneStep s c.args.target.now.which) c.args.pass.now c.loop-source.pass c.bring_forward.new.pass c.in_ok-step.step c.loop-source.invariant.once
    c.in_ok-step.ensures.once

pub returns-clause-once : goal.returns-clause-once
returns-clause-once g c =
    turns.all_level
    (all_took_turns (λ s. s.which) c.args.sources.now c.loop-source.source-index c.loop-source-test.false
    (λ s p q. IsOneStep s c.args.target.now.which p q Level) c.args.pass.now c.loop-source.pass c.loop-source.invariant.once)

pub returns-in_err-step-clause-nothing : goal.returns-in_err-step-clause-nothing
returns-in_err-step-clause-nothing g c =
    let none = refused_in_turn (λ s. s.which) c.args.sources.now c.loop-source.source-index c.source-item.result c.loop-source-test.true c.source-item.is
    (λ s. IsOneStep s c.args.target.now.which) (λ s. IsNoStep s c.args.target.now.which) c.args.pass.now c.loop-source.pass c.bring_forward.new.pass
    c.loop-source.invariant.once c.in_err-step.ensures.nothing in
    search (rules, none)

pub returns-in_err-step-clause-err : goal.returns-in_err-step-clause-err
returns-in_err-step-clause-err g c = err_as c.from_residual.result c.in_err-step.field-0.0 _ c.from_residual.ensures.1 c.in_err-step.ensures.err
