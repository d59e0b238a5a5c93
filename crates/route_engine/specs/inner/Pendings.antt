-- What a statement's pass owes, and steps from what the program keeps of a transaction to what it keeps then.
use Rattle.std.specs.Prelude.{◌≡◌, ℕ, true, Option, Some, IsSome}
use Rattle.vschema.specs.WellFormed.{is_vschema}
use Rattle.journal.specs.Runs.{IsLegal, NumbersBelow}
use Rattle.journal.specs.Views.{PassView}
use Rattle.shard_run.specs.declared.Entry.{Entry}
use Rattle.shard_run.specs.Runs.{Opening}
use Rattle.shard_run.specs.Openings.{IsOpening}
use Rattle.shard_contents.specs.Entries.{MayFollow, commit_of}
use Rattle.shard_calls.specs.Transactions.{Transaction}
use Rattle.shard_calls.specs.Pendings.{OpenView, Represents}

-- The run opens over a VSchema, and the pass has seen a legal one; it is a session's, none of whose commits that it has seen has a number of a
-- statement that is still to come.
pub record IsReady (o : Opening) (p : PassView Entry) : Type 0 where
  pub opens : IsOpening o
  pub formed : is_vschema o.schema ≡ true
  pub legal : IsLegal (MayFollow o) p.seen
  pub session : IsSome p.session
  pub above : (n : ℕ) → p.session ≡ Some n → NumbersBelow commit_of n p.statements p.seen

-- From whatever transaction the program keeps by the first, as the one pass has it, a step leads to one that it keeps by the second, as the other
-- pass has it.
pub record Leads (o : Opening) (p : PassView Entry) (v : Option OpenView) (now : PassView Entry) (w : Option OpenView)
    (step : Option Transaction → Option Transaction → Type 0) : Type 0 where
  pub from : (t : Option Transaction) → Represents o p v t → (u : Option Transaction) × step t u × Represents o now w u
