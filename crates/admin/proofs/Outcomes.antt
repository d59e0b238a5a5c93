-- What a refused call of a workflow did.
use Rattle.std.proofs.Common.{◌≡◌, ◌⊎◌, List, length, inl, inr, sym, subst}
use Rattle.keyrange.specs.declared.KeyRange.{KeyRange}
use Rattle.journal.specs.Views.{PassView}
use Rattle.shard_run.specs.declared.Entry.{Entry}
use Rattle.shard_run.specs.Runs.{Opening}
use Rattle.route_engine.specs.Limits.{Limits}
use Rattle.vt_value.specs.declared.refusal.Refusal.TheVariants.{ShardFull}
use Rattle.reshard.specs.declared.workflow.Stage.TheVariants as stages
use Rattle.reshard.specs.ReshardFault.{ReshardFault}
use Rattle.reshard.specs.ReshardFault.TheVariants as faults
use Rattle.reshard.specs.Workflows.{WorkflowView}
use Rattle.reshard.specs.FirstMoves.{IsMoveRefusal, IsNoStepFirst, IsFullFirst}
use Rattle.reshard.specs.Begun.{IsCreateRefusal}
use Rattle.reshard.specs.Looked.{HasLookedAtParts}
use Rattle.reshard.specs.Cutover.{MaySwitch, MayCancel, HasStoppedShort, HasStoppedLater}
use Rattle.admin.specs.declared.reply.AdminReply.TheVariants.{Refused}
use Rattle.admin.specs.AdminAnswers.{HasCreated, AnswersStep, HasCutOver, HasAdvanced, HasResumed, HasCancelled, HasCompleted}
use Rattle.admin.specs.AdminAnswers as told

module _ (o : Opening) (most : Limits) (w now : WorkflowView) (p q : PassView Entry) (e : ReshardFault) where
  pub move_refused : ((e ≡ faults.WrongState) × (w.stage ≡ stages.Following → ⊥)) ⊎ ((w.stage ≡ stages.Following) × IsMoveRefusal o most w.targets q e)
      → ((w.stage ≡ stages.Following → ⊥) × (q ≡ p)) ⊎ ((w.stage ≡ stages.Following) × IsNoStepFirst w.targets p q)
      → (e ≡ faults.Refused ShardFull → IsFullFirst o most w.targets p q) → now ≡ w → AnswersStep o most w now p q (Refused e)
  move_refused (inl h) (inl k) full same = subst (λ x. AnswersStep o most w now p q (Refused x)) (sym h.0) (told.wrong_state h.1 same k.1)
  move_refused (inl h) (inr k) full same = absurd (h.1 k.0)
  move_refused (inr h) (inl k) full same = absurd (k.0 h.0)
  move_refused (inr h) (inr k) full same = told.refused h.0 h.1 k.1 full same

  pub switch_refused : ((e ≡ faults.WrongState) × (w.stage ≡ stages.Following → ⊥) × (now ≡ w) × (q ≡ p))
      ⊎ ((w.stage ≡ stages.Following) × HasStoppedLater o most w now p q e) → HasCutOver o most w now p q (Refused e)
  switch_refused (inl h) = subst (λ x. HasCutOver o most w now p q (Refused x)) (sym h.0) (told.wrong_state h.1 h.2 h.3)
  switch_refused (inr h) = told.refused h.0 h.1

  pub advance_refused : ((e ≡ faults.WrongState) × (MaySwitch w → ⊥) × (now ≡ w) × (q ≡ p)) ⊎ (MaySwitch w × HasStoppedShort o most w now p q e)
      → HasAdvanced o most w now p q (Refused e)
  advance_refused (inl h) = subst (λ x. HasAdvanced o most w now p q (Refused x)) (sym h.0) (told.wrong_state h.1 h.2 h.3)
  advance_refused (inr h) = told.refused h.0 h.1

module _ (o : Opening) (w now : WorkflowView) (p q : PassView Entry) (e : ReshardFault) where
  pub create_refused : (from into : List KeyRange)
      → ((e ≡ faults.WrongState) × (w.stage ≡ stages.None → ⊥) × (q ≡ p)) ⊎ ((w.stage ≡ stages.None) × IsCreateRefusal o p q w.keyspace (length w.free) from into e)
      → (w.stage ≡ stages.None → HasLookedAtParts o w.keyspace p q) → now ≡ w → HasCreated o from into w now p q (Refused e)
  create_refused from into (inl h) looked same = subst (λ x. HasCreated o from into w now p q (Refused x)) (sym h.0) (told.wrong_state h.1 same h.2)
  create_refused from into (inr h) looked same = told.refused h.0 h.1 (looked h.0) same

  pub resume_refused : e ≡ faults.WrongState → (w.stage ≡ stages.Switching → ⊥) → now ≡ w → q ≡ p → HasResumed o w now p q (Refused e)
  resume_refused is not same still = subst (λ x. HasResumed o w now p q (Refused x)) (sym is) (told.wrong_state not same still)

  pub cancel_refused : e ≡ faults.WrongState → (MayCancel w → ⊥) → now ≡ w → q ≡ p → HasCancelled o w now p q (Refused e)
  cancel_refused is not same still = subst (λ x. HasCancelled o w now p q (Refused x)) (sym is) (told.wrong_state not same still)

  pub complete_refused : e ≡ faults.WrongState → (w.stage ≡ stages.Switched → ⊥) → now ≡ w → q ≡ p → HasCompleted o w now p q (Refused e)
  complete_refused is not same still = subst (λ x. HasCompleted o w now p q (Refused x)) (sym is) (told.wrong_state not same still)
