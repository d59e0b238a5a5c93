-- What the text of a statement may give its client.
use Rattle.std.specs.Prelude.{◌≡◌, ℕ, List, Option, None, is_some}
use Rattle.vt_value.specs.declared.refusal.Refusal.{Refusal}
use Rattle.vt_value.specs.declared.refusal.Refusal.TheVariants.{OutOfMemory}
use Rattle.resultset.specs.declared.Column.{Column}
use Rattle.resultset.specs.declared.Outcome.{Outcome}
use Rattle.resultset.specs.declared.Outcome.TheVariants.{Rows, Count, Refused}
use Rattle.journal.specs.Views.{PassView}
use Rattle.shard_run.specs.declared.Entry.{Entry}
use Rattle.shard_run.specs.Runs.{Opening}
use Rattle.vschema.specs.declared.schema.VSchema.{VSchema}
use Rattle.route_engine.specs.Selected.{Selected}
use Rattle.route_engine.specs.Answer.{Answer}
use Rattle.route_engine.specs.Answer.TheVariants as a
use Rattle.route_engine.specs.Reply.{Reply}
use Rattle.route_engine.specs.Transactions as transactions
use Rattle.route_engine.specs.Transactions.{IsReplyTo, IsRefusedAt}
use Rattle.route_engine.specs.Pendings.{OpenView, Represents}
use Rattle.route_engine.specs.Limits.{Limits}
use Rattle.session.specs.conversation.Columns.{AreColumns}
use Rattle.session.specs.declared.conversation.access.Handshake.{Handshake}
use Rattle.session.specs.conversation.SessionContext.{SessionContext}

-- what a session's pass has seen, and its open transaction
abbrev pub PassAndTransaction : Type 0
PassAndTransaction = transactions.PassAndTx

-- no transaction is open
abbrev pub none_open : PassView Entry → PassAndTransaction
none_open p = record { pass = p; tx = None }

-- The pass is this one, and what a session keeps stands for the open transaction.
abbrev pub IsKept : Opening → PassView Entry → Option OpenView → PassAndTransaction → Type 0
IsKept o p kept s = (s.pass ≡ p) × Represents o p kept s.tx

-- how an answer is told: rows under the definitions of the columns that they show, or a count
pub data Shows (schema : VSchema) : Answer → Outcome → Type 0 where
  rows : {columns : List Column} {selected : Selected} → AreColumns schema selected.table selected.join selected.items selected.qualified columns
      → Shows schema (a.Rows selected) (Rows (record { columns = columns; rows = selected.rows }))
  count : {n : ℕ} → Shows schema (a.Count n) (Count n)

abbrev pub HasRows : Answer → Type 0
HasRows (a.Rows selected) = Unit {0}
HasRows (a.Count n) = ⊥

-- What the text of a statement may give its client: an answer that it may have, or a refusal for its cause; and how it leaves the pass and the
-- transaction. If there is no memory for the rows of an answer, its outcome is F1, and it leaves them as the answer does.
pub data Means (o : Opening) (limits : Limits) (s : PassAndTransaction) (text : List ℕ) : Outcome → PassAndTransaction → Type 0 where
  answered : {outcome : Outcome} {now : PassAndTransaction} (reply : Reply) → IsReplyTo o limits s text reply now → Shows o.schema reply.answer outcome
      → Means o limits s text outcome now
  untold : {now : PassAndTransaction} (reply : Reply) → IsReplyTo o limits s text reply now → HasRows reply.answer
      → Means o limits s text (Refused OutOfMemory) now
  refused : {r : Refusal} {now : PassAndTransaction} → IsRefusedAt o limits s text r now → Means o limits s text (Refused r) now

-- The context of the router's conversations.
abbrev pub context_of : Opening → Handshake → SessionContext PassAndTransaction
context_of o handshake = record { handshake = handshake; schema = o.schema; is_open = λ s. is_some s.tx; dropped = λ s. none_open s.pass }
