use Rattle.std.proofs.Common.{rules, ◌≡◌, inl, inr, ap, ◌∙◌, subst}
use Rattle.std.specs.Prelude.{OnOk}
use Rattle.reshard.specs.declared.workflow.Stage.TheVariants.{Following}
use Rattle.reshard.specs.Workflows.{WorkflowView}
use Rattle.reshard.specs.Cutover.{HasFinished, HasSwitchedToTheEnd, HasStoppedOn}
use Rattle.reshard.specs.Cutover as cut
use Rattle.reshard_create.proofs.Onward.{onward_trans}
use Rattle.reshard_create.proofs.Residual.{residual_same}
use Rattle.reshard.proofs.Through.{err_as}
use Rattle.std.proofs.lemmas.Result.{on_ok_weaker}
use Rattle.reshard.proofs.workflow.Workflow.switch_traffic.Goals as goal

pub returns-in_err-keep_up-clause-refused : goal.returns-in_err-keep_up-clause-refused
returns-in_err-keep_up-clause-refused g c =
    let was : c.args.self.now.stage ≡ Following = search rules in
    let h = c.in_err-keep_up.ensures.refused in
    residual_same c.from_residual.result c.in_err-keep_up.field-0.0 _ c.from_residual.ensures.1 (inr (was, cut.while_coming h.0 h.1))

pub switch_all-requires-clause-may : goal.switch_all-requires-clause-may
switch_all-requires-clause-may g c =
    let was : c.args.self.now.stage ≡ Following = search rules in
    inl (ap (λ (w : WorkflowView). w.stage) c.in_ok-keep_up.ensures.same ∙ was)

pub returns-clause-through : goal.returns-clause-through
returns-clause-through g c =
    subst (λ (w : WorkflowView). OnOk c.switch_all.result (HasFinished w c.switch_all.new.self c.switch_all.new.pass)) c.in_ok-keep_up.ensures.same
    c.switch_all.ensures.through

pub returns-clause-refused : goal.returns-clause-refused
returns-clause-refused g c =
    let o = g.W.World.opening in
    let now = c.switch_all.new.self in
    let mid = c.keep_up.new.pass in
    let q = c.switch_all.new.pass in
    let was : c.args.self.now.stage ≡ Following = search rules in
    err_as c.switch_all.result _ _
    (λ e h. inr (
      was,
      cut.at_step mid c.in_ok-keep_up.ensures.near c.keep_up.ensures.onward
          (subst (λ (w : WorkflowView). HasStoppedOn o g.W.World.limits w now mid q e) c.in_ok-keep_up.ensures.same h),
    )) c.switch_all.ensures.refused

pub returns-clause-onward : goal.returns-clause-onward
returns-clause-onward g c =
    onward_trans g.W.World.opening c.args.pass.now c.keep_up.new.pass c.switch_all.new.pass c.keep_up.ensures.onward c.switch_all.ensures.onward

pub returns-clause-steps : goal.returns-clause-steps
returns-clause-steps g c =
    let o = g.W.World.opening in
    let now = c.switch_all.new.self in
    let mid = c.keep_up.new.pass in
    let q = c.switch_all.new.pass in
    on_ok_weaker c.switch_all.result
    (λ h none.
    record {
      before = mid;
      near = c.in_ok-keep_up.ensures.near none;
      rest = subst (λ (w : WorkflowView). HasSwitchedToTheEnd o w now mid q) c.in_ok-keep_up.ensures.same h;
    }) c.switch_all.ensures.steps
