-- What a statement's pass has seen goes on; passes that meet see the longer of what they had seen.
use Rattle.std.proofs.Common.{◌≡◌, ◌⊎◌, ℕ, List, Option, Result, Ok, Err, subst, ◌∙◌, inl, inr}
use Rattle.std.specs.Prelude.{IfOk, IfErr}
use mathlib.Core.List.{IsPrefix}
use Rattle.vt_value.specs.declared.refusal.Refusal.{Refusal}
use Rattle.journal.specs.Views.{PassView, IsLonger}
use Rattle.journal.proofs.Fronts.{prefix_both}
use Rattle.shard_run.specs.declared.Entry.{Entry}
use Rattle.shard_run.specs.Runs.{Opening}
use Rattle.shard_law.specs.declared.limits.Limits.{Limits}
use Rattle.vtgate_clients.specs.Reply.{Reply}
use Rattle.vtgate_clients.specs.Transactions.{Transaction, IsReplyTo, IsRefusedAt}
use Rattle.vtgate_clients.specs.Pendings.{OpenView, Represents, IsOf}
use Rattle.vtgate_clients.proofs.Steps.{answer_on, refusal_at_on}

-- ---- statements

-- what `execute` says of a reply, and of a refusal
module _ (o : Opening) (l : Limits) (p now : PassView Entry) (v w : Option OpenView) (text : List ℕ) where
  abbrev pub Answered : Reply → Type 0
  Answered r = (t : Option Transaction) → Represents o p v t
      → (u : Option Transaction) × IsReplyTo o l (record { pass = p; tx = t }) text r (record { pass = now; tx = u }) × Represents o now w u

  abbrev pub Refused : Refusal → Type 0
  Refused e = (t : Option Transaction) → Represents o p v t
      → (u : Option Transaction) × IsRefusedAt o l (record { pass = p; tx = t }) text e (record { pass = now; tx = u }) × Represents o now w u

  -- what is seen after a statement begins with what was seen before it
  pub goes_on : (result : Result Reply Refusal) → IfOk result Answered → IfErr result Refused → IsOf o v p → IsPrefix p.seen now.seen
  goes_on (Ok reply) is why kept = let said = is kept.0 kept.1 in (answer_on o l text _ _ reply said.1).later
  goes_on (Err e) is why kept = let said = why kept.0 kept.1 in (refusal_at_on o l text _ _ e said.1).later

-- ---- meetings

module _ {E : Type 0} (slot_of : E → ℕ) (commit_of : E → Option (ℕ × ℕ)) (may : List E → E → Type 0) where
  -- a pass that has seen no more than the other sees what that has seen
  pub sees_all : (p q : PassView E) (run : List E) → IsLonger slot_of commit_of may p q run → IsPrefix p.seen q.seen → run ≡ q.seen
  sees_all p q run longer trailing = by longer.either
    where
      by : (run ≡ p.seen) ⊎ (run ≡ q.seen) → run ≡ q.seen
      by (inl e) = e ∙ prefix_both p.seen q.seen trailing (subst (λ (z : List E). IsPrefix q.seen z) e longer.other)
      by (inr e) = e
