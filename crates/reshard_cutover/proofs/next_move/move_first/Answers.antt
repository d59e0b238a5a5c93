use Rattle.std.proofs.Common.{◌≡◌, map, rules, subst}
use Rattle.std.specs.Prelude.{Contains}
use Rattle.std.specs.List.{AllByRecursion}
use Rattle.shard_run.specs.declared.ShardRecord.{ShardRecord}
use Rattle.follow.specs.declared.steps.Step.{Step}
use Rattle.follow.specs.declared.steps.Step.TheVariants.{Level}
use Rattle.follow.specs.Steps.{HasMovedWith, IsFull}
use Rattle.reshard_cutover.specs.TargetSources.{TargetWithSources}
use Rattle.follow.specs.Turns.{IsOneStepWith, IsNoStepWith}
use Rattle.follow.specs.Turns as turns
use Rattle.follow.proofs.Turns.{one_more_turn, moves_in_turn, refused_in_turn, all_took_turns}
use Rattle.reshard_cutover.proofs.Onward.{still, onward_trans}
use Rattle.reshard_cutover.proofs.Retiring.{item_of, map_at}
use Rattle.reshard_cutover.proofs.Residual.{residual_same}
use Rattle.reshard_cutover.proofs.Moving.{first_moved, level_next, all_moved, unmapped, move_refusal, full_of}
use Rattle.reshard_cutover.proofs.next_move.move_first.Goals as goal

pub bring_forward_with-requires-clause-of_source : goal.bring_forward_with-requires-clause-of_source
bring_forward_with-requires-clause-of_source g c =
    let t = c.target-item.result in
    let m =
    map_at (λ t. (t.member.which, map (λ s. s.which) t.sources.items)) c.args.targets.now c.loop-target.target-index t c.loop-target-test.true c.target-item.is in
    let own =
    item_of (λ (t : TargetWithSources). AllByRecursion (λ s. Contains t.0.sources s.slot) t.1) (map (λ t. (t.member.which, map (λ s. s.which) t.sources.items)) c.args.targets.now)
    c.loop-target.target-index (t.member.which, map (λ s. s.which) t.sources.items) m.0 m.1 c.requires.own in
    subst (AllByRecursion (λ s. Contains t.member.which.sources s.which.slot)) (Rattle.std.proofs.Common.sym c.as_slice.ensures.value)
    (unmapped (λ (s : ShardRecord). Contains t.member.which.sources s.slot) (λ s. s.which) t.sources.items own)

pub returns-in_err-step-clause-refused : goal.returns-in_err-step-clause-refused
returns-in_err-step-clause-refused g c =
    let t = c.target-item.result in
    let m =
    map_at (λ t. (t.member.which, map (λ s. s.which) t.sources.items)) c.args.targets.now c.loop-target.target-index t c.loop-target-test.true c.target-item.is in
    residual_same c.from_residual.result c.in_err-step.field-0.0 _ c.from_residual.ensures.1
    (move_refusal g.W.World.opening g.W.World.limits (map (λ t. (t.member.which, map (λ s. s.which) t.sources.items)) c.args.targets.now) c.loop-target.target-index
    (t.member.which, map (λ s. s.which) t.sources.items) m.0 m.1 c.bring_forward_with.new.pass c.in_err-step.field-0.0 c.in_err-step.ensures.err)

pub returns-then-ne-clause-moved : goal.returns-then-ne-clause-moved
returns-then-ne-clause-moved g c =
    let t = c.target-item.result in
    let o = g.W.World.opening in
    first_moved (λ t. (t.member.which, map (λ s. s.which) t.sources.items)) o c.args.pass.now c.loop-target.pass c.bring_forward_with.new.pass c.args.targets.now
    c.loop-target.target-index t c.loop-target-test.true c.target-item.is c.loop-target.invariant.onward c.bring_forward_with.ensures.onward
    c.loop-target.invariant.level c.in_ok-step.step
    (subst (λ l. HasMovedWith o (map (λ s. s.which) l) t.member.which c.loop-target.pass c.bring_forward_with.new.pass c.in_ok-step.step) c.as_slice.ensures.value
    c.in_ok-step.ensures.moved)

pub loop-target-preserved : goal.loop-target-preserved
loop-target-preserved g c =
    let t = c.target-item.result in
    let o = g.W.World.opening in
    let same : c.in_ok-step.step ≡ Level = search rules in
    record {
      onward = onward_trans o c.args.pass.now c.loop-target.pass c.bring_forward_with.new.pass c.loop-target.invariant.onward c.bring_forward_with.ensures.onward;
      level =
          level_next (λ t. (t.member.which, map (λ s. s.which) t.sources.items)) o c.args.pass.now c.loop-target.pass c.bring_forward_with.new.pass
          c.args.targets.now c.loop-target.target-index t c.loop-target-test.true c.target-item.is c.loop-target.invariant.onward
          c.bring_forward_with.ensures.onward c.loop-target.invariant.level
          (subst (λ (s : Step). HasMovedWith o (map (λ s. s.which) t.sources.items) t.member.which c.loop-target.pass c.bring_forward_with.new.pass s) same
          (subst (λ l. HasMovedWith o (map (λ s. s.which) l) t.member.which c.loop-target.pass c.bring_forward_with.new.pass c.in_ok-step.step)
          c.as_slice.ensures.value c.in_ok-step.ensures.moved));
      once =
          one_more_turn (λ t. (t.member.which, map (λ s. s.which) t.sources.items)) c.args.targets.now c.loop-target.target-index t c.loop-target-test.true
          c.target-item.is (λ (t : TargetWithSources) p q. IsOneStepWith t.1 t.0 p q Level) c.args.pass.now c.loop-target.pass c.bring_forward_with.new.pass
          c.loop-target.invariant.once
          (subst (λ (s : Step). IsOneStepWith (map (λ s. s.which) t.sources.items) t.member.which c.loop-target.pass c.bring_forward_with.new.pass s) same
          (subst (λ l. IsOneStepWith (map (λ s. s.which) l) t.member.which c.loop-target.pass c.bring_forward_with.new.pass c.in_ok-step.step)
          c.as_slice.ensures.value c.in_ok-step.ensures.once));
    }

pub returns-clause-moved : goal.returns-clause-moved
returns-clause-moved g c =
    all_moved (λ t. (t.member.which, map (λ s. s.which) t.sources.items)) g.W.World.opening c.args.pass.now c.loop-target.pass c.args.targets.now
    c.loop-target.target-index c.loop-target-test.false c.loop-target.invariant.level

pub loop-target-init : goal.loop-target-init
loop-target-init g c =
    record { onward = still g.W.World.opening c.args.pass.now c.requires.legal; level = tt; once = turns.none }

pub returns-then-ne-clause-once : goal.returns-then-ne-clause-once
returns-then-ne-clause-once g c =
    let t = c.target-item.result in
    moves_in_turn (λ t. (t.member.which, map (λ s. s.which) t.sources.items)) c.args.targets.now c.loop-target.target-index t c.loop-target-test.true
    c.target-item.is (λ (t : TargetWithSources). IsOneStepWith t.1 t.0) c.args.pass.now c.loop-target.pass c.bring_forward_with.new.pass c.in_ok-step.step
    c.loop-target.invariant.once
    (subst (λ l. IsOneStepWith (map (λ s. s.which) l) t.member.which c.loop-target.pass c.bring_forward_with.new.pass c.in_ok-step.step)
    c.as_slice.ensures.value c.in_ok-step.ensures.once)

pub returns-clause-once : goal.returns-clause-once
returns-clause-once g c =
    turns.all_level
    (all_took_turns (λ t. (t.member.which, map (λ s. s.which) t.sources.items)) c.args.targets.now c.loop-target.target-index c.loop-target-test.false
    (λ (t : TargetWithSources) p q. IsOneStepWith t.1 t.0 p q Level) c.args.pass.now c.loop-target.pass c.loop-target.invariant.once)

pub returns-in_err-step-clause-nothing : goal.returns-in_err-step-clause-nothing
returns-in_err-step-clause-nothing g c =
    let t = c.target-item.result in
    let none = refused_in_turn (λ t. (t.member.which, map (λ s. s.which) t.sources.items)) c.args.targets.now c.loop-target.target-index t c.loop-target-test.true
    c.target-item.is (λ (t : TargetWithSources). IsOneStepWith t.1 t.0) (λ (t : TargetWithSources). IsNoStepWith t.1 t.0) c.args.pass.now c.loop-target.pass c.bring_forward_with.new.pass
    c.loop-target.invariant.once
    (subst (λ l. IsNoStepWith (map (λ s. s.which) l) t.member.which c.loop-target.pass c.bring_forward_with.new.pass) c.as_slice.ensures.value
    c.in_err-step.ensures.nothing) in
    search (rules, none)

pub returns-in_err-step-clause-full : goal.returns-in_err-step-clause-full
returns-in_err-step-clause-full g c =
    let o = g.W.World.opening in
    let most = g.W.World.limits in
    let t = c.target-item.result in
    residual_same c.from_residual.result c.in_err-step.field-0.0 _ c.from_residual.ensures.1
    (λ is. refused_in_turn (λ t. (t.member.which, map (λ s. s.which) t.sources.items)) c.args.targets.now c.loop-target.target-index t c.loop-target-test.true
    c.target-item.is (λ (t : TargetWithSources). IsOneStepWith t.1 t.0) (λ (t : TargetWithSources) p q. IsNoStepWith t.1 t.0 p q × IsFull o most t.0 q.seen)
    c.args.pass.now c.loop-target.pass c.bring_forward_with.new.pass c.loop-target.invariant.once (
      subst (λ l. IsNoStepWith (map (λ s. s.which) l) t.member.which c.loop-target.pass c.bring_forward_with.new.pass) c.as_slice.ensures.value
          c.in_err-step.ensures.nothing,
      full_of o most t.member.which c.bring_forward_with.new.pass c.in_err-step.field-0.0 c.in_err-step.ensures.err is,
    ))
