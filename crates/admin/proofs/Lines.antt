-- What a line tells of its ranges, and of the lines for which there is no memory or no keyspace.
use Rattle.std.proofs.Common.{◌≡◌, ℕ, List, refl, sym, subst, ◌∙◌}
use Rattle.std.specs.List.{AllByRecursion}
use Rattle.std.specs.Prelude.{Contains, Option, Some, None, codes}
use Rattle.vt_value.specs.declared.refusal.Refusal.{Refusal}
use Rattle.vt_value.specs.declared.refusal.Refusal.TheVariants.{OutOfMemory}
use Rattle.keyrange.specs.declared.KeyRange.{KeyRange}
use Rattle.keyrange.specs.Names.{IsNamed}
use Rattle.journal.specs.Views.{PassView}
use Rattle.shard_run.specs.declared.Entry.{Entry}
use Rattle.shard_run.specs.Runs.{Opening}
use Rattle.route_engine.specs.Limits.{Limits}
use Rattle.reshard.specs.ReshardFault.TheVariants as faults
use Rattle.reshard.specs.Workflows.{WorkflowView}
use Rattle.vtgate_lines.specs.Partitions.{IsListOf, last, more}
use Rattle.vtgate_lines.specs.AdminLines.{IsCreate, AsksFor}
use Rattle.vtgate_lines.specs.declared.admin_lines.AdminLine.TheVariants as lines
use Rattle.admin.specs.declared.reply.AdminReply.{AdminReply}
use Rattle.admin.specs.declared.reply.AdminReply.TheVariants.{Refused, Unknown}
use Rattle.admin.specs.AdminAnswers.{IsAnswered, IsAnsweredWithout, IsAdminReply, TellsStatus, workflow_words, unread, over, without}
use Rattle.admin.specs.AdminAnswers as told

pub all_named : (text : List ℕ) (ranges : List KeyRange) → IsListOf text ranges → AllByRecursion IsNamed ranges
all_named text ranges (last is) = (is.0, tt)
all_named text ranges (more {rest = rest} {ranges = others} is rest_is) = (is.0, all_named rest others rest_is)

pub without_memory : (words : List ℕ) (e : Refusal) → e ≡ OutOfMemory → IsAnsweredWithout words (Refused (faults.Refused e))
without_memory words e is = subst (λ x. IsAnsweredWithout words (Refused (faults.Refused x))) (sym is) told.no_memory

pub status_memory : (w : WorkflowView) (e : Refusal) → e ≡ OutOfMemory → TellsStatus w (Refused (faults.Refused e))
status_memory w e is = subst (λ x. TellsStatus w (Refused (faults.Refused x))) (sym is) told.no_memory

pub line_memory : (o : Opening) (most : Limits) (words : List ℕ) (w : WorkflowView) (p : PassView Entry) (e : Refusal) → e ≡ OutOfMemory
    → IsAnswered o most words w w p p (Refused (faults.Refused e))
line_memory o most words w p e is =
    subst (λ x. IsAnswered o most words w w p p (Refused (faults.Refused x))) (sym is) (unread refl refl)

-- ---- without a sharded keyspace

module _ (words : List ℕ) (r r' : AdminReply) (is : r' ≡ r) where
  pub status_without : words ≡ codes "status" → IsAnsweredWithout (codes "status") r → IsAnsweredWithout words r'
  status_without asks h = subst (λ (ws : List ℕ). IsAnsweredWithout ws r') (sym asks) (subst (IsAnsweredWithout (codes "status")) (sym is) h)

  pub create_without : (from into : List KeyRange) → IsCreate words from into → r ≡ Refused faults.WrongSource → IsAnsweredWithout words r'
  create_without from into asks h = subst (IsAnsweredWithout words) (sym (is ∙ h)) (told.create from into asks)

  pub other_without : Contains workflow_words words → r ≡ Refused faults.WrongState → IsAnsweredWithout words r'
  other_without is_one h = subst (IsAnsweredWithout words) (sym (is ∙ h)) (told.other is_one)

pub unknown_without : (words : List ℕ) (r : AdminReply) → r ≡ Unknown → AsksFor words lines.Unknown → IsAnsweredWithout words r
unknown_without words r is asks = subst (IsAnsweredWithout words) (sym is) (told.unknown asks)

-- ---- over either

module _ (o : Opening) (most : Limits) (words : List ℕ) (p q : PassView Entry) (reply : AdminReply) where
  pub told_without : (old now : Option WorkflowView) → old ≡ None → now ≡ None → IsAnsweredWithout words reply → q ≡ p → IsAdminReply o most words p q reply old now
  told_without old now was is h still =
      subst (λ (x : Option WorkflowView). IsAdminReply o most words p q reply x now) (sym was)
      (subst (λ (y : Option WorkflowView). IsAdminReply o most words p q reply None y) (sym is) (without h still))

  pub told_over : (old : Option WorkflowView) (w now : WorkflowView) → old ≡ Some w → IsAnswered o most words w now p q reply
      → IsAdminReply o most words p q reply old (Some now)
  told_over old w now was h = subst (λ (x : Option WorkflowView). IsAdminReply o most words p q reply x (Some now)) (sym was) (over h)
