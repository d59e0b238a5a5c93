use Rattle.std.proofs.Common.{◌≡◌, true, List, length, map, refl, sym, ap, ◌∙◌, subst, arith}
use Rattle.std.proofs.lemmas.List.{length-map}
use Rattle.std.specs.Prelude.{IfOk, IfErr, OnErr, MatchOption, slice_get}
use Rattle.journal.proofs.Fronts.{prefix_self}
use Rattle.vt_value.specs.declared.refusal.Refusal.{Refusal}
use Rattle.vt_value.specs.declared.refusal.Refusal.TheVariants.{OutOfMemory, ShardFull}
use Rattle.reshard_create.specs.Step.{Step}
use Rattle.reshard_create.specs.ReshardFault.TheVariants.{Refused}
use Rattle.reshard_create.specs.FirstMoves.{HasMovedFirst, IsMoveRefusal, IsOneStepFirst, IsNoStepFirst}
use Rattle.reshard.specs.Workflows.{WorkflowView}
use Rattle.reshard_create.specs.TargetSources.{TargetWithSources}
use Rattle.reshard.specs.declared.cutover.CutoverStep.{CutoverStep}
use Rattle.reshard.specs.declared.cutover.CutoverStep.TheVariants.{Retire}
use Rattle.reshard_create.specs.Step.TheVariants.{Level}
use Rattle.std.specs.List.{AllByRecursion}
use Rattle.reshard_create.specs.Turns.{HasLookedAt, IsCutShort}
use Rattle.reshard_create.specs.Looks.{IsWithinRows}
use Rattle.reshard.specs.Cutover.{IsSwitchRefusal, overfull, HasFoundReady, DoesNoMore, HasComeTo, MayRetireFirst}
use Rattle.reshard.specs.Cutover as cut
use Rattle.reshard.proofs.Nexts.{from_move, refusal_within}
use Rattle.reshard_create.proofs.Residual.{residual_same}
use Rattle.reshard.proofs.Switches.{froze_after, copied_after, followed_after, memory_refused, room_refused, refused_as, on_refusal, may_retire}
use Rattle.reshard.proofs.workflow.Workflow.switch_before.Goals.{then-all_fit, else-all_fit}
use Rattle.reshard.proofs.workflow.Workflow.switch_before.Goals as goal

pub returns-in_err-prepare-clause-refused : goal.returns-in_err-prepare-clause-refused
returns-in_err-prepare-clause-refused g c =
    residual_same c.from_residual.result OutOfMemory _ c.from_residual.ensures.1
    (memory_refused g.W.World.opening g.W.World.limits c.args.self.now.sources c.args.self.now.targets c.args.pass.now c.args.pass.now OutOfMemory refl)

pub returns-in_err-freeze_next-clause-refused : goal.returns-in_err-freeze_next-clause-refused
returns-in_err-freeze_next-clause-refused g c =
    let w1 = c.prepare.new.self in
    let e = c.in_err-freeze_next.field-0.0 in
    residual_same c.from_residual-in_err-freeze_next.result e _ c.from_residual-in_err-freeze_next.ensures.1
    (refused_as g.W.World.opening g.W.World.limits c.args.self.now w1 true c.args.pass.now c.freeze_next.new.pass (Refused e) c.in_ok-prepare.ensures.now
    (room_refused g.W.World.opening g.W.World.limits w1.sources w1.targets c.args.pass.now c.freeze_next.new.pass e c.in_err-freeze_next.ensures.err))

pub returns-then-self-len-clause-step : goal.returns-then-self-len-clause-step
returns-then-self-len-clause-step g c =
    froze_after g.W.World.opening c.args.self.now c.prepare.new.self c.freeze_next.new.self c.args.pass.now c.freeze_next.new.pass c.in_ok-prepare.ensures.now
    c.in_ok-freeze_next.ensures.froze c.in_ok-freeze_next.ensures.now

pub returns-then-self-len-clause-once : goal.returns-then-self-len-clause-once
returns-then-self-len-clause-once g c =
    let h = c.in_ok-freeze_next.ensures.froze in
    (h.0, sym (ap (λ (v : WorkflowView). slice_get v.sources v.frozen) c.in_ok-prepare.ensures.now) ∙ h.1, h.3)

pub returns-in_err-move_first-clause-refused : goal.returns-in_err-move_first-clause-refused
returns-in_err-move_first-clause-refused g c =
    let o = g.W.World.opening in
    let most = g.W.World.limits in
    let w1 = c.prepare.new.self in
    let e = c.in_err-move_first.field-0.0 in
    let now = c.move_first.new.pass in
    let ts =
    ap (map {B = TargetWithSources} (λ t. (t.member.which, map (λ s. s.which) t.sources.items))) c.as_slice.ensures.value ∙ ap (λ (w : WorkflowView). w.targets) c.self.view_is in
    residual_same c.from_residual-in_err-move_first.result e _ c.from_residual-in_err-move_first.ensures.1
    (refused_as o most c.args.self.now w1 true c.args.pass.now now (Refused e) c.in_ok-prepare.ensures.now
    (from_move o most w1.sources w1.targets c.args.pass.now now (Refused e) c.move_first.ensures.onward.later
    (subst (λ (l : List TargetWithSources). IsMoveRefusal o most l now (Refused e)) ts c.in_err-move_first.ensures.refused)))

pub returns-in-Copied-clause-step : goal.returns-in-Copied-clause-step
returns-in-Copied-clause-step g c =
    let o = g.W.World.opening in
    let w1 = c.prepare.new.self in
    let now = c.move_first.new.pass in
    let ts =
    ap (map {B = TargetWithSources} (λ t. (t.member.which, map (λ s. s.which) t.sources.items))) c.as_slice.ensures.value ∙ ap (λ (w : WorkflowView). w.targets) c.self.view_is in
    let a = c.if-self-len.false in
    let b = c.len.ensures in
    let d = c.self.inside.sources.ok.0 in
    let e = length-map c.self.inside.sources.items (λ s. s.member.which) in
    let v = ap (λ (w : WorkflowView). length w.sources) c.self.view_is in
    let n = ap (λ (w : WorkflowView). w.frozen) c.self.view_is in
    copied_after o c.args.self.now w1 w1 c.args.pass.now now c.in_ok-prepare.ensures.now (omega (arith, a, b, d, e, v, n))
    (subst (λ (l : List TargetWithSources). HasMovedFirst o l c.args.pass.now now Rattle.reshard_create.specs.Step.TheVariants.Copied) ts
    (subst (λ (s : Step). HasMovedFirst o (map {B = TargetWithSources} (λ t. (t.member.which, map (λ s. s.which) t.sources.items)) c.as_slice.result.now) c.args.pass.now now s)
    c.in-Copied.is c.in_ok-move_first.ensures.moved)) refl

pub returns-in-Followed-clause-step : goal.returns-in-Followed-clause-step
returns-in-Followed-clause-step g c =
    let o = g.W.World.opening in
    let w1 = c.prepare.new.self in
    let now = c.move_first.new.pass in
    let ts =
    ap (map {B = TargetWithSources} (λ t. (t.member.which, map (λ s. s.which) t.sources.items))) c.as_slice.ensures.value ∙ ap (λ (w : WorkflowView). w.targets) c.self.view_is in
    let a = c.if-self-len.false in
    let b = c.len.ensures in
    let d = c.self.inside.sources.ok.0 in
    let e = length-map c.self.inside.sources.items (λ s. s.member.which) in
    let v = ap (λ (w : WorkflowView). length w.sources) c.self.view_is in
    let n = ap (λ (w : WorkflowView). w.frozen) c.self.view_is in
    followed_after o c.args.self.now w1 w1 c.args.pass.now now c.in_ok-prepare.ensures.now (omega (arith, a, b, d, e, v, n))
    (subst (λ (l : List TargetWithSources). HasMovedFirst o l c.args.pass.now now Rattle.reshard_create.specs.Step.TheVariants.Followed) ts
    (subst (λ (s : Step). HasMovedFirst o (map {B = TargetWithSources} (λ t. (t.member.which, map (λ s. s.which) t.sources.items)) c.as_slice.result.now) c.args.pass.now now s)
    c.in-Followed.is c.in_ok-move_first.ensures.moved)) refl

pub returns-in-Copied-clause-once : goal.returns-in-Copied-clause-once
returns-in-Copied-clause-once g c =
    let p = c.args.pass.now in
    let now = c.move_first.new.pass in
    let ts =
    ap (map {B = TargetWithSources} (λ t. (t.member.which, map (λ s. s.which) t.sources.items))) c.as_slice.ensures.value ∙ ap (λ (w : WorkflowView). w.targets) c.self.view_is
    ∙ ap (λ (w : WorkflowView). w.targets) c.in_ok-prepare.ensures.now in
    subst (λ (l : List TargetWithSources). IsOneStepFirst l p now Rattle.reshard_create.specs.Step.TheVariants.Copied) ts
    (subst (λ (s : Step). IsOneStepFirst (map {B = TargetWithSources} (λ t. (t.member.which, map (λ s. s.which) t.sources.items)) c.as_slice.result.now) p now s)
    c.in-Copied.is c.in_ok-move_first.ensures.once)

pub returns-in-Followed-clause-once : goal.returns-in-Followed-clause-once
returns-in-Followed-clause-once g c =
    let p = c.args.pass.now in
    let now = c.move_first.new.pass in
    let ts =
    ap (map {B = TargetWithSources} (λ t. (t.member.which, map (λ s. s.which) t.sources.items))) c.as_slice.ensures.value ∙ ap (λ (w : WorkflowView). w.targets) c.self.view_is
    ∙ ap (λ (w : WorkflowView). w.targets) c.in_ok-prepare.ensures.now in
    subst (λ (l : List TargetWithSources). IsOneStepFirst l p now Rattle.reshard_create.specs.Step.TheVariants.Followed) ts
    (subst (λ (s : Step). IsOneStepFirst (map {B = TargetWithSources} (λ t. (t.member.which, map (λ s. s.which) t.sources.items)) c.as_slice.result.now) p now s)
    c.in-Followed.is c.in_ok-move_first.ensures.once)

pub returns-clause-once : goal.returns-clause-once
returns-clause-once g c =
    let w = c.args.self.now in
    let p = c.args.pass.now in
    let q = c.move_first.new.pass in
    let now = c.all_fit.new.pass in
    let back = ap (λ (w : WorkflowView). w.targets) c.in_ok-prepare.ensures.now in
    let ts =
    ap (map {B = TargetWithSources} (λ t. (t.member.which, map (λ s. s.which) t.sources.items))) c.as_slice.ensures.value ∙ ap (λ (w : WorkflowView). w.targets) c.self.view_is ∙ back in
    let ts2 =
    ap (map {B = TargetWithSources} (λ t. (t.member.which, map (λ s. s.which) t.sources.items))) c.as_slice-2.ensures.value ∙ ap (λ (w : WorkflowView). w.targets) c.self.view_is
    ∙ back in
    let level = subst (λ (l : List TargetWithSources). IsOneStepFirst l p q Level) ts
    (subst (λ (s : Step). IsOneStepFirst (map {B = TargetWithSources} (λ t. (t.member.which, map (λ s. s.which) t.sources.items)) c.as_slice.result.now) p q s)
    c.in-Level.is c.in_ok-move_first.ensures.once) in
    elim c.if-all_fit.branch [
      | then-all_fit w' ↦
          subst (λ r. IfOk r (λ r. MatchOption r (HasFoundReady w p now) (DoesNoMore w p now))) (sym w'.result-is) (
            q,
            level,
            subst (λ (l : List TargetWithSources). HasLookedAt (map (λ t. t.0.slot) l) q now) ts2 (c.all_fit.ensures.looked w'.if-all_fit.true),
          )
      | else-all_fit w' ↦ subst (λ r. IfOk r (λ r. MatchOption r (HasFoundReady w p now) (DoesNoMore w p now))) (sym w'.result-is) tt
    ]

pub returns-clause-refused : goal.returns-clause-refused
returns-clause-refused g c =
    let o = g.W.World.opening in
    let most = g.W.World.limits in
    let w1 = c.prepare.new.self in
    let q = c.move_first.new.pass in
    let now = c.all_fit.new.pass in
    let ts =
    ap (map {B = TargetWithSources} (λ t. (t.member.which, map (λ s. s.which) t.sources.items))) c.as_slice-2.ensures.value ∙ ap (λ (w : WorkflowView). w.targets) c.self.view_is in
    elim c.if-all_fit.branch [
      | then-all_fit w ↦ subst (λ r. IfErr r (λ (e : Refusal). IsSwitchRefusal o most c.args.self.now.sources c.args.self.now.targets c.args.pass.now now (Refused e))) (sym w.result-is) tt
      | else-all_fit w ↦
          subst (λ r. IfErr r (λ (e : Refusal). IsSwitchRefusal o most c.args.self.now.sources c.args.self.now.targets c.args.pass.now now (Refused e))) (sym w.result-is)
          (refused_as o most c.args.self.now w1 true c.args.pass.now now (Refused ShardFull) c.in_ok-prepare.ensures.now
          (refusal_within o most w1.sources w1.targets q c.args.pass.now now now c.in_ok-move_first.ensures.onward.later (prefix_self now.seen) (Refused ShardFull)
          (let h = c.all_fit.ensures.many w.if-all_fit.false in
          overfull h.0 (subst (λ (l : List TargetWithSources). Rattle.std.specs.Prelude.Contains l h.0) ts h.1) h.2)))
    ]

pub returns-clause-ready : goal.returns-clause-ready
returns-clause-ready g c =
    let o = g.W.World.opening in
    let most = g.W.World.limits in
    let w = c.args.self.now in
    let w1 = c.prepare.new.self in
    let p = c.args.pass.now in
    let q = c.move_first.new.pass in
    let now = c.all_fit.new.pass in
    let ts =
    ap (map {B = TargetWithSources} (λ t. (t.member.which, map (λ s. s.which) t.sources.items))) c.as_slice.ensures.value ∙ ap (λ (w : WorkflowView). w.targets) c.self.view_is in
    let ts2 =
    ap (map {B = TargetWithSources} (λ t. (t.member.which, map (λ s. s.which) t.sources.items))) c.as_slice-2.ensures.value ∙ ap (λ (w : WorkflowView). w.targets) c.self.view_is in
    let a = c.if-self-len.false in
    let b = c.len.ensures in
    let d = c.self.inside.sources.ok.0 in
    let e = length-map c.self.inside.sources.items (λ s. s.member.which) in
    let v = ap (λ (w : WorkflowView). length w.sources) c.self.view_is in
    let n = ap (λ (w : WorkflowView). w.frozen) c.self.view_is in
    let made = c.in_ok-prepare.ensures.now in
    let level = subst (λ (l : List TargetWithSources). HasMovedFirst o l p q Level) ts
    (subst (λ (s : Step). HasMovedFirst o (map {B = TargetWithSources} (λ t. (t.member.which, map (λ s. s.which) t.sources.items)) c.as_slice.result.now) p q s)
    c.in-Level.is c.in_ok-move_first.ensures.moved) in
    elim c.if-all_fit.branch [
      | then-all_fit w' ↦
          subst (λ r. IfOk r (λ r. MatchOption r (MayRetireFirst o most w p now) (λ (step : CutoverStep). step ≡ Retire → ⊥))) (sym w'.result-is)
          (may_retire o most w w1 p q now made (omega (arith, a, b, d, e, v, n)) level c.all_fit.ensures.onward
          (subst (λ (l : List TargetWithSources). AllByRecursion (λ t. IsWithinRows o most t.0 q now) l) ts2 (c.all_fit.ensures.few w'.if-all_fit.true)) c.move_first.ensures.onward.later)
      | else-all_fit w' ↦
          subst (λ r. IfOk r (λ r. MatchOption r (MayRetireFirst o most w p now) (λ (step : CutoverStep). step ≡ Retire → ⊥))) (sym w'.result-is) tt
    ]

pub returns-in_err-prepare-clause-short : goal.returns-in_err-prepare-clause-short
returns-in_err-prepare-clause-short g c = on_refusal c.from_residual.result (HasComeTo c.args.self.now c.args.pass.now c.args.pass.now) cut.unprepared

pub returns-in_err-freeze_next-clause-short : goal.returns-in_err-freeze_next-clause-short
returns-in_err-freeze_next-clause-short g c =
    let h = c.in_err-freeze_next.ensures.looked in
    on_refusal c.from_residual-in_err-freeze_next.result (HasComeTo c.args.self.now c.args.pass.now c.freeze_next.new.pass)
    (cut.unfrozen h.0 (sym (ap (λ (v : WorkflowView). slice_get v.sources v.frozen) c.in_ok-prepare.ensures.now) ∙ h.1) h.2)

pub returns-in_err-move_first-clause-short : goal.returns-in_err-move_first-clause-short
returns-in_err-move_first-clause-short g c =
    let p = c.args.pass.now in
    let now = c.move_first.new.pass in
    let ts =
    ap (map {B = TargetWithSources} (λ t. (t.member.which, map (λ s. s.which) t.sources.items))) c.as_slice.ensures.value ∙ ap (λ (w : WorkflowView). w.targets) c.self.view_is
    ∙ ap (λ (w : WorkflowView). w.targets) c.in_ok-prepare.ensures.now in
    on_refusal c.from_residual-in_err-move_first.result (HasComeTo c.args.self.now p now)
    (cut.unmoved (subst (λ (l : List TargetWithSources). IsNoStepFirst l p now) ts c.in_err-move_first.ensures.nothing))

pub returns-clause-short : goal.returns-clause-short
returns-clause-short g c =
    let w = c.args.self.now in
    let p = c.args.pass.now in
    let q = c.move_first.new.pass in
    let now = c.all_fit.new.pass in
    let back = ap (λ (w : WorkflowView). w.targets) c.in_ok-prepare.ensures.now in
    let ts =
    ap (map {B = TargetWithSources} (λ t. (t.member.which, map (λ s. s.which) t.sources.items))) c.as_slice.ensures.value ∙ ap (λ (w : WorkflowView). w.targets) c.self.view_is ∙ back in
    let ts2 =
    ap (map {B = TargetWithSources} (λ t. (t.member.which, map (λ s. s.which) t.sources.items))) c.as_slice-2.ensures.value ∙ ap (λ (w : WorkflowView). w.targets) c.self.view_is
    ∙ back in
    let level = subst (λ (l : List TargetWithSources). IsOneStepFirst l p q Level) ts
    (subst (λ (s : Step). IsOneStepFirst (map {B = TargetWithSources} (λ t. (t.member.which, map (λ s. s.which) t.sources.items)) c.as_slice.result.now) p q s)
    c.in-Level.is c.in_ok-move_first.ensures.once) in
    elim c.if-all_fit.branch [
      | then-all_fit w' ↦ subst (λ r. OnErr r (HasComeTo w p now)) (sym w'.result-is) tt
      | else-all_fit w' ↦
          subst (λ r. OnErr r (HasComeTo w p now)) (sym w'.result-is)
          (cut.unfit q level (subst (λ (l : List TargetWithSources). IsCutShort (map (λ t. t.0.slot) l) q now) ts2 (c.all_fit.ensures.short w'.if-all_fit.false)))
    ]
