use Rattle.std.proofs.Common.{rules, ◌≡◌, inl, refl, map, ap, ◌∙◌}
use Rattle.reshard.specs.declared.cutover.CutoverStep.TheVariants.{Release}
use Rattle.reshard.specs.Workflows.{WorkflowView}
use Rattle.reshard_create.specs.TargetSources.{TargetWithSources}
use Rattle.reshard_create.proofs.Onward.{still, onward_trans}
use Rattle.reshard.proofs.Through.{further_still, further_trans, further_switched, switched_at_end, published_at_end, begun_still, finished, through}
use Rattle.reshard.proofs.Switches.{no_more}
use Rattle.reshard.specs.Cutover as cut
use Rattle.reshard.proofs.workflow.Workflow.finish.Goals as goal

pub loop-init : goal.loop-init
loop-init g c = record {
  next = tt;
  finite = tt;
  further = further_still c.args.self.now;
  begun = c.requires.begun;
  prepared = c.requires.prepared;
  steps = cut.unswitched;
  onward = still g.W.World.opening c.args.pass.now c.requires.legal;
}

pub returns-then-eq-clause-finished : goal.returns-then-eq-clause-finished
returns-then-eq-clause-finished g c =
    let o = g.W.World.opening in
    let mid = c.loop.self in
    let now = c.switch_after-step.new.self in
    let step = c.switch_after-step.result in
    let h = c.switch_after-step.ensures.switched in
    let last : step ≡ Release = search rules in
    finished c.args.self.now now c.confirm_cutover.new.pass
    (further_trans c.args.self.now mid now c.loop.invariant.further (further_switched o mid now c.loop.pass c.switch_after-step.new.pass step h))
    (switched_at_end o mid now c.loop.pass c.switch_after-step.new.pass step h last)
    (published_at_end o mid now c.loop.pass c.switch_after-step.new.pass step h last)
    (map (λ s. s.member.which) c.as_slice.result.now) (map (λ t. (t.member.which, map (λ s. s.which) t.sources.items)) c.as_slice-then-eq.result.now)
    (ap (map (λ s. s.member.which)) c.as_slice.ensures.value ∙ ap (λ (w : WorkflowView). w.sources) c.self.view_is)
    (ap (map {B = TargetWithSources} (λ t. (t.member.which, map (λ s. s.which) t.sources.items))) c.as_slice-then-eq.ensures.value ∙ ap (λ (w : WorkflowView). w.targets) c.self.view_is)
    c.confirm_cutover.ensures.through

pub loop-preserved : goal.loop-preserved
loop-preserved g c =
    let o = g.W.World.opening in
    let mid = c.loop.self in
    let now = c.switch_after-step.new.self in
    let step = c.switch_after-step.result in
    let h = c.switch_after-step.ensures.switched in
    record {
      next = tt;
      finite = tt;
      further = further_trans c.args.self.now mid now c.loop.invariant.further (further_switched o mid now c.loop.pass c.switch_after-step.new.pass step h);
      begun = begun_still o mid now c.loop.pass c.switch_after-step.new.pass step h c.loop.invariant.begun;
      prepared = ap (λ (w : WorkflowView). w.prepared) c.switch_after-step.ensures.steady ∙ c.loop.invariant.prepared;
      steps =
          cut.switched c.loop.invariant.steps h (no_more mid c.loop.pass c.loop.pass c.switch_after-step.new.pass step (inl refl) c.switch_after-step.ensures.alone);
      onward = onward_trans o c.args.pass.now c.loop.pass c.switch_after-step.new.pass c.loop.invariant.onward c.switch_after-step.ensures.onward;
    }

pub returns-then-eq-clause-steps : goal.returns-then-eq-clause-steps
returns-then-eq-clause-steps g c =
    let o = g.W.World.opening in
    let mid = c.loop.self in
    let now = c.switch_after-step.new.self in
    let step = c.switch_after-step.result in
    let h = c.switch_after-step.ensures.switched in
    through o c.args.self.now now c.args.pass.now c.switch_after-step.new.pass c.confirm_cutover.new.pass
    (further_trans c.args.self.now mid now c.loop.invariant.further (further_switched o mid now c.loop.pass c.switch_after-step.new.pass step h))
    (cut.switched c.loop.invariant.steps h (no_more mid c.loop.pass c.loop.pass c.switch_after-step.new.pass step (inl refl) c.switch_after-step.ensures.alone))
    (map (λ s. s.member.which) c.as_slice.result.now) (map (λ t. (t.member.which, map (λ s. s.which) t.sources.items)) c.as_slice-then-eq.result.now)
    (ap (map (λ s. s.member.which)) c.as_slice.ensures.value ∙ ap (λ (w : WorkflowView). w.sources) c.self.view_is)
    (ap (map {B = TargetWithSources} (λ t. (t.member.which, map (λ s. s.which) t.sources.items))) c.as_slice-then-eq.ensures.value ∙ ap (λ (w : WorkflowView). w.targets) c.self.view_is)
    c.confirm_cutover.ensures.onward c.confirm_cutover.ensures.looked
