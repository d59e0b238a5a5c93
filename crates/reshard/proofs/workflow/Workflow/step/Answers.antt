use Rattle.std.proofs.Common.{◌≡◌, ◌⊎◌, List, map, ap, subst, ◌∙◌, rules, inr}
use Rattle.vt_value.specs.declared.refusal.Refusal.{Refusal}
use Rattle.vt_value.specs.declared.refusal.Refusal.TheVariants.{ShardFull}
use Rattle.reshard_create.specs.ReshardFault.TheVariants.{Refused}
use Rattle.reshard.specs.declared.workflow.Stage.TheVariants.{Following}
use Rattle.reshard_create.specs.FirstMoves.{IsMoveRefusal, IsNoStepFirst, IsFullFirst}
use Rattle.reshard_create.specs.TargetSources.{TargetWithSources}
use Rattle.reshard.specs.Workflows.{WorkflowView}
use Rattle.reshard_create.proofs.Unfit.{residual}
use Rattle.reshard.proofs.workflow.Workflow.step.Goals as goal

refused_as : (a b : Refusal) → Refused a ≡ Refused b → a ≡ b
refused_as a b is = cc is

pub returns-in_err-step-clause-refused : goal.returns-in_err-step-clause-refused
returns-in_err-step-clause-refused g c =
    let s : c.args.self.now.stage ≡ Following = search rules in
    let m : IsMoveRefusal g.W.World.opening g.W.World.limits c.args.self.now.targets c.move_first.new.pass (Refused c.in_err-step.field-0.0) = search rules in
    residual c.from_residual.result c.in_err-step.field-0.0 _ c.from_residual.ensures.1 (inr (s, m))

pub returns-in_err-step-clause-nothing : goal.returns-in_err-step-clause-nothing
returns-in_err-step-clause-nothing g c =
    let s : c.args.self.now.stage ≡ Following = search rules in
    let none : IsNoStepFirst c.args.self.now.targets c.args.pass.now c.move_first.new.pass = search rules in
    let either : ((c.args.self.now.stage ≡ Following → ⊥) × (c.move_first.new.pass ≡ c.args.pass.now))
    ⊎ ((c.args.self.now.stage ≡ Following) × IsNoStepFirst c.args.self.now.targets c.args.pass.now c.move_first.new.pass) = inr (s, none) in
    search (rules, either)

pub returns-in_err-step-clause-full : goal.returns-in_err-step-clause-full
returns-in_err-step-clause-full g c =
    let targets : map (λ t. (t.member.which, map (λ s. s.which) t.sources.items)) c.as_slice.result.now ≡ c.args.self.now.targets =
    ap (map {B = TargetWithSources} (λ t. (t.member.which, map (λ s. s.which) t.sources.items))) c.as_slice.ensures.value ∙ ap (λ (w : WorkflowView). w.targets) c.self.view_is in
    residual c.from_residual.result c.in_err-step.field-0.0 _ c.from_residual.ensures.1
    (λ is. subst (λ (l : List TargetWithSources). IsFullFirst g.W.World.opening g.W.World.limits l c.args.pass.now c.move_first.new.pass) targets
    (c.in_err-step.ensures.full (refused_as c.in_err-step.field-0.0 ShardFull is)))
