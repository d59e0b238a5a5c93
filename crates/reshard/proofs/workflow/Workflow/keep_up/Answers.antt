use Rattle.std.proofs.Common.{◌≡◌, ℕ, List, map, refl, ap, ◌∙◌, subst, arith}
use Rattle.reshard_create.specs.ReshardFault.TheVariants.{Refused}
use Rattle.reshard_create.specs.FirstMoves.{IsMoveRefusal}
use Rattle.reshard_create.specs.TargetSources.{TargetWithSources}
use Rattle.reshard.specs.Workflows.{WorkflowView}
use Rattle.reshard.specs.Cutover.{HaveComeNear, HaveComeUntilRefused}
use Rattle.reshard.proofs.Nexts.{from_move}
use Rattle.reshard.proofs.Switches.{stopped}
use Rattle.reshard.proofs.workflow.Workflow.keep_up.Goals as goal

pub give_up-requires-clause-none : goal.give_up-requires-clause-none
give_up-requires-clause-none g c =
    let a = c.if-self-gt0.false in
    let n = ap (λ (w : WorkflowView). w.retired) c.self.view_is in
    omega (arith, a, n)

pub returns-in-Err-clause-refused : goal.returns-in-Err-clause-refused
unfolding stopped
returns-in-Err-clause-refused g c =
    let o = g.W.World.opening in
    let most = g.W.World.limits in
    let w = c.args.self.now in
    let p = c.args.pass.now in
    let at = c.come_near.new.pass in
    let a = c.if-self-gt0.false in
    let n = ap (λ (w : WorkflowView). w.retired) c.self.view_is in
    let none : w.retired ≡ 0 = omega (arith, a, n) in
    let e = Refused c.in-Err.refusal in
    let ts =
    ap (map {B = TargetWithSources} (λ t. (t.member.which, map (λ s. s.which) t.sources.items))) c.as_slice.ensures.value ∙ ap (λ (w : WorkflowView). w.targets) c.self.view_is in
    let cause = from_move o most w.sources w.targets p at e c.come_near.ensures.onward.later
    (subst (λ (l : List TargetWithSources). IsMoveRefusal o most l at e) ts c.in-Err.ensures.refused) in (
      stopped o most w w c.give_up.new.self p at c.give_up.new.pass e c.come_near.ensures.onward cause none refl c.give_up.ensures.now c.give_up.ensures.serve
          c.give_up.ensures.thawed,
      subst (λ (l : List TargetWithSources). HaveComeUntilRefused l p at) ts c.in-Err.ensures.until,
    )

pub returns-in-Ok-clause-near : goal.returns-in-Ok-clause-near
returns-in-Ok-clause-near g c none =
    subst (λ (l : List TargetWithSources). HaveComeNear g.W.World.opening l c.args.pass.now c.come_near.new.pass)
    (ap (map {B = TargetWithSources} (λ t. (t.member.which, map (λ s. s.which) t.sources.items))) c.as_slice.ensures.value ∙ ap (λ (w : WorkflowView). w.targets) c.self.view_is)
    c.in-Ok.ensures.near
