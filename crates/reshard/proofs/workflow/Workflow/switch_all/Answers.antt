use Rattle.std.proofs.Common.{rules, ◌≡◌, map, sym, ap, ◌∙◌}
use Rattle.reshard.specs.declared.cutover.CutoverStep.TheVariants.{Release}
use Rattle.reshard.specs.Workflows.{WorkflowView}
use Rattle.reshard.specs.Cutover as cut
use Rattle.reshard_create.specs.TargetSources.{TargetWithSources}
use Rattle.reshard_create.proofs.Onward.{still, onward_trans}
use Rattle.reshard_create.proofs.Residual.{residual_same}
use Rattle.reshard.proofs.Through.{further_still, further_trans, further_switched, switched_at_end, published_at_end, may_still, finished, through, refused_later}
use Rattle.reshard.proofs.workflow.Workflow.switch_all.Goals as goal

pub loop-init : goal.loop-init
loop-init g c = record {
  next = tt;
  finite = tt;
  further = further_still c.args.self.now;
  may = c.requires.may;
  steps = cut.unswitched;
  onward = still g.W.World.opening c.args.pass.now c.requires.legal;
}

pub returns-in_err-step-clause-refused : goal.returns-in_err-step-clause-refused
returns-in_err-step-clause-refused g c =
    residual_same c.from_residual.result c.in_err-step.field-0.0 _ c.from_residual.ensures.1
    (refused_later g.W.World.opening g.W.World.limits c.args.self.now c.loop.self c.switch_step.new.self c.args.pass.now c.loop.pass c.switch_step.new.pass
    c.in_err-step.field-0.0 c.loop.invariant.further c.loop.invariant.may c.loop.invariant.steps c.loop.invariant.onward c.in_err-step.ensures.refused)

pub returns-then-eq-clause-through : goal.returns-then-eq-clause-through
returns-then-eq-clause-through g c =
    let o = g.W.World.opening in
    let mid = c.loop.self in
    let now = c.switch_step.new.self in
    let step = c.in_ok-step.step in
    let h = c.in_ok-step.ensures.switched in
    let last : step ≡ Release = search rules in
    finished c.args.self.now now c.confirm_cutover.new.pass
    (further_trans c.args.self.now mid now c.loop.invariant.further (further_switched o mid now c.loop.pass c.switch_step.new.pass step h))
    (switched_at_end o mid now c.loop.pass c.switch_step.new.pass step h last)
    (published_at_end o mid now c.loop.pass c.switch_step.new.pass step h last)
    (map (λ s. s.member.which) c.as_slice.result.now) (map (λ t. (t.member.which, map (λ s. s.which) t.sources.items)) c.as_slice-then-eq.result.now)
    (ap (map (λ s. s.member.which)) c.as_slice.ensures.value ∙ ap (λ (w : WorkflowView). w.sources) c.self.view_is)
    (ap (map {B = TargetWithSources} (λ t. (t.member.which, map (λ s. s.which) t.sources.items))) c.as_slice-then-eq.ensures.value ∙ ap (λ (w : WorkflowView). w.targets) c.self.view_is)
    c.confirm_cutover.ensures.through

pub loop-preserved : goal.loop-preserved
loop-preserved g c =
    let o = g.W.World.opening in
    let mid = c.loop.self in
    let now = c.switch_step.new.self in
    let step = c.in_ok-step.step in
    let h = c.in_ok-step.ensures.switched in
    let n : step ≡ Release → ⊥ = search rules in
    record {
      next = tt;
      finite = tt;
      further = further_trans c.args.self.now mid now c.loop.invariant.further (further_switched o mid now c.loop.pass c.switch_step.new.pass step h);
      may = may_still o mid now c.loop.pass c.switch_step.new.pass step h n c.loop.invariant.may;
      steps = cut.switched c.loop.invariant.steps h c.in_ok-step.ensures.once;
      onward = onward_trans o c.args.pass.now c.loop.pass c.switch_step.new.pass c.loop.invariant.onward c.switch_step.ensures.onward;
    }

pub returns-then-eq-clause-steps : goal.returns-then-eq-clause-steps
returns-then-eq-clause-steps g c =
    let o = g.W.World.opening in
    let mid = c.loop.self in
    let now = c.switch_step.new.self in
    through o c.args.self.now now c.args.pass.now c.switch_step.new.pass c.confirm_cutover.new.pass
    (further_trans c.args.self.now mid now c.loop.invariant.further (further_switched o mid now c.loop.pass c.switch_step.new.pass c.in_ok-step.step c.in_ok-step.ensures.switched))
    (cut.switched c.loop.invariant.steps c.in_ok-step.ensures.switched c.in_ok-step.ensures.once) (map (λ s. s.member.which) c.as_slice.result.now)
    (map (λ t. (t.member.which, map (λ s. s.which) t.sources.items)) c.as_slice-then-eq.result.now)
    (ap (map (λ s. s.member.which)) c.as_slice.ensures.value ∙ ap (λ (w : WorkflowView). w.sources) c.self.view_is)
    (ap (map {B = TargetWithSources} (λ t. (t.member.which, map (λ s. s.which) t.sources.items))) c.as_slice-then-eq.ensures.value ∙ ap (λ (w : WorkflowView). w.targets) c.self.view_is)
    c.confirm_cutover.ensures.onward c.confirm_cutover.ensures.looked
