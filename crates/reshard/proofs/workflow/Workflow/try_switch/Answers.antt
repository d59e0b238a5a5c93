use Rattle.std.proofs.Common.{inl, inr, sym, ap, ◌∙◌, subst}
use Rattle.journal.specs.Views.{PassView}
use Rattle.shard_run.specs.declared.Entry.{Entry}
use Rattle.reshard_create.specs.FollowSteps.{IsOnward}
use Rattle.reshard.specs.Workflows.{WorkflowView}
use Rattle.reshard.specs.Cutover.{HasSwitched, HasFoundReady, EndsAlone, MayRetireFirst}
use Rattle.reshard_create.proofs.Onward.{onward_trans}
use Rattle.reshard.proofs.Switches.{switched_since, when_none, ready_later, no_more, alone_of}
use Rattle.reshard.proofs.workflow.Workflow.try_switch.Goals.{then-self-eq0+in_ok-step+in_default, else-self-eq0}
use Rattle.reshard.proofs.workflow.Workflow.try_switch.Goals as goal

pub returns-clause-switched : goal.returns-clause-switched
returns-clause-switched g c =
    let o = g.W.World.opening in
    let h = c.switch_after.ensures.switched in
    elim c.if-self-eq0.branch [
      | then-self-eq0+in_ok-step+in_default w ↦
          switched_since o c.args.self.now c.switch_after.new.self c.args.pass.now c.if-self-eq0.pass c.switch_after.new.pass
          (subst (λ (q : PassView Entry). IsOnward o c.args.pass.now q) (sym w.pass-is) w.switch_before.ensures.onward) c.if-self-eq0.self
          (w.self-is ∙ when_none w.in_ok-step.field-0 _ _ w.in_default.is w.in_ok-step.ensures.step) c.switch_after.result h
      | else-self-eq0 w ↦
          subst (λ (q : PassView Entry). HasSwitched o c.args.self.now c.switch_after.new.self q c.switch_after.new.pass c.switch_after.result) w.pass-is
          (subst (λ (v : WorkflowView). HasSwitched o v c.switch_after.new.self c.if-self-eq0.pass c.switch_after.new.pass c.switch_after.result) w.self-is h)
    ]

pub returns-clause-onward : goal.returns-clause-onward
returns-clause-onward g c =
    let o = g.W.World.opening in
    let h = c.switch_after.ensures.onward in
    elim c.if-self-eq0.branch [
      | then-self-eq0+in_ok-step+in_default w ↦
          onward_trans o c.args.pass.now c.if-self-eq0.pass c.switch_after.new.pass
          (subst (λ (q : PassView Entry). IsOnward o c.args.pass.now q) (sym w.pass-is) w.switch_before.ensures.onward) h
      | else-self-eq0 w ↦ subst (λ (q : PassView Entry). IsOnward o q c.switch_after.new.pass) w.pass-is h
    ]

pub returns-clause-ready : goal.returns-clause-ready
returns-clause-ready g c step none =
    let o = g.W.World.opening in
    let most = g.W.World.limits in
    elim c.if-self-eq0.branch [
      | then-self-eq0+in_ok-step+in_default w ↦
          ready_later o most c.args.self.now c.args.pass.now c.if-self-eq0.pass c.switch_after.new.pass c.switch_after.ensures.onward
          (subst (λ (q : PassView Entry). MayRetireFirst o most c.args.self.now c.args.pass.now q) (sym w.pass-is)
          (when_none w.in_ok-step.field-0 _ _ w.in_default.is w.in_ok-step.ensures.ready))
      | else-self-eq0 w ↦ absurd (w.if-self-eq0.false (ap (λ (v : WorkflowView). v.retired) c.self.view_is ∙ none))
    ]

pub returns-clause-once : goal.returns-clause-once
returns-clause-once g c =
    let w = c.args.self.now in
    let p = c.args.pass.now in
    let q = c.switch_after.new.pass in
    let step = c.switch_after.result in
    let m = c.if-self-eq0.pass in
    elim c.if-self-eq0.branch [
      | then-self-eq0+in_ok-step+in_default b ↦
          no_more w p m q step
          (inr (
            sym (ap (λ (v : WorkflowView). v.retired) c.self.view_is) ∙ b.if-self-eq0.true,
            subst (λ (x : PassView Entry). HasFoundReady w p x) (sym b.pass-is) (when_none b.in_ok-step.field-0 _ _ b.in_default.is b.in_ok-step.ensures.once),
          ))
          (alone_of w c.if-self-eq0.self m q step (b.self-is ∙ when_none b.in_ok-step.field-0 _ _ b.in_default.is b.in_ok-step.ensures.step) c.switch_after.ensures.alone)
      | else-self-eq0 b ↦
          no_more w p m q step (inl b.pass-is) (subst (λ (v : WorkflowView). EndsAlone v m q step) b.self-is c.switch_after.ensures.alone)
    ]
