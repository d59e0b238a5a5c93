use Rattle.std.proofs.Common.{ℕ, Some, refl, sym, ap, ◌∙◌}
use denote.Param.Send.{sendable}
use Rattle.shard_run.proofs.Sent.{entry_send}
use Rattle.admin.specs.AdminAnswers.{keyspace_of}
use Rattle.admin.proofs.Lines.{told_without, told_over}
use Rattle.admin.proofs.Homes.{keyspace_stays}
use Rattle.admin.proofs.administrator.Administrator.answer.Goals as goal

pub session-requires-send-L-Entry : goal.session-requires-send-L-Entry
session-requires-send-L-Entry g c κs within = search (entry_send, sendable)

pub returns-in_default-clause-told : goal.returns-in_default-clause-told
returns-in_default-clause-told g c =
    told_without _ _ _ _ _ _ _ _ (sym c.self.view_is ∙ c.in_default.is) c.in_default.is c.answer_without.ensures refl

pub returns-clause-told : goal.returns-clause-told
returns-clause-told g c = told_over _ _ _ _ _ _ _ _ _ (sym c.self.view_is ∙ c.in-Some.is) c.answer_over.ensures.answered

pub returns-in_default-clause-keyspace : goal.returns-in_default-clause-keyspace
returns-in_default-clause-keyspace g c = ap keyspace_of c.self.view_is

pub returns-clause-keyspace : goal.returns-clause-keyspace
returns-clause-keyspace g c =
    ap (λ (k : ℕ). Some k) (keyspace_stays _ _ _ _ _ _ _ _ c.answer_over.ensures.answered) ∙ sym (ap keyspace_of (sym c.self.view_is ∙ c.in-Some.is))
