-- What the text of a statement may tell its client if no other session comes between: what one database tells.
use Rattle.std.specs.Prelude.{◌≡◌, ℕ, List, [], ◌∷◌, ◌++◌, map, Option, Some, None, Ok, refl, is_some}
use Rattle.std.specs.List.{AllByRecursion}
use Rattle.vt_value.specs.declared.refusal.Refusal.{Refusal}
use Rattle.vt_value.specs.declared.refusal.Refusal.TheVariants.{OutOfMemory, NotSupported, ShardMoved, ShardFull}
use Rattle.sql_tree.specs.declared.Statement.{Statement}
use Rattle.sql_parser.specs.Grammar.{Reads}
use Rattle.resultset.specs.declared.Outcome.{Outcome}
use Rattle.resultset.specs.declared.Outcome.TheVariants.{Refused}
use Rattle.vschema.specs.declared.schema.VSchema.{VSchema}
use Rattle.vschema.specs.declared.schema.Typed.{Typed}
use Rattle.vschema.specs.declared.schema.Typed.TheVariants as typed
use Rattle.vschema.specs.Database.{Database}
use Rattle.vschema.specs.TypedStatement.{typed_statement}
use Rattle.journal.specs.Views.{PassView}
use Rattle.shard_run.specs.declared.Entry.{Entry}
use Rattle.shard_run.specs.Runs.{Run, Opening, database}
use Rattle.route_engine.specs.Limits.{Limits}
use Rattle.route_engine.specs.Answer.{Answer}
use Rattle.route_engine.specs.Answer.TheVariants.{Count}
use Rattle.route_engine.specs.Alone.{NoCommits, GivesOver, GiveInTurn, IsRefusedOver}
use Rattle.route_engine.specs.Transactions.{TransactionStatement, Transaction, GiveOver, write_on}
use Rattle.session.specs.declared.conversation.access.Handshake.{Handshake}
use Rattle.session.specs.conversation.SessionContext.{SessionContext}
use Rattle.session.specs.conversation.Means.{PassAndTransaction, none_open, Shows, HasRows, Means}

-- ---- one database

-- a statement and its answer
pub record AnsweredStatement : Type 0 where
  pub typed : Typed
  pub answer : Answer

-- a database, and the answered statements of the transaction that is open on it
pub record OneState : Type 0 where
  pub db : Database
  pub open_one : Option (List AnsweredStatement)

abbrev pub InTurn : VSchema → Database → List AnsweredStatement → Database → Type 0
InTurn = GiveInTurn (λ (t : AnsweredStatement). t.typed) (λ (t : AnsweredStatement). t.answer)

-- What a statement gives, and the state after it. In a transaction it gives what it means after the transaction's statements so far, which
-- COMMIT does all at once, and ROLLBACK never.
pub data GivesNext (schema : VSchema) (db : Database) : Option (List AnsweredStatement) → Typed → Answer → OneState → Type 0 where
  by_itself : {t : Typed} {answer : Answer} {after : Database} → GivesOver schema db t answer after
      → GivesNext schema db None t answer (record { db = after; open_one = None })
  begins : GivesNext schema db None typed.Begin (Count 0) (record { db = db; open_one = Some [] })
  none_to_commit : GivesNext schema db None typed.Commit (Count 0) (record { db = db; open_one = None })
  none_to_roll_back : GivesNext schema db None typed.Rollback (Count 0) (record { db = db; open_one = None })
  within : {told : List AnsweredStatement} {after : Database} (t : AnsweredStatement) → InTurn schema db (told ++ t ∷ []) after
      → GivesNext schema db (Some told) t.typed t.answer (record { db = db; open_one = Some (told ++ t ∷ []) })
  commits : {told : List AnsweredStatement} {after : Database} → InTurn schema db told after
      → GivesNext schema db (Some told) typed.Commit (Count 0) (record { db = after; open_one = None })
  rolls_back : {told : List AnsweredStatement} → GivesNext schema db (Some told) typed.Rollback (Count 0) (record { db = db; open_one = None })

-- the text is a statement under the VSchema, and the answer is what it gives
pub record AnswersNext (schema : VSchema) (s : OneState) (text : List ℕ) (answer : Answer) (now : OneState) : Type 0 where
  pub statement : Statement
  pub typed : Typed
  pub reads : Reads text statement
  pub resolved : typed_statement schema statement ≡ Ok typed
  pub gives : GivesNext schema s.db s.open_one typed answer now

-- the rows that a statement sees
abbrev pub Sees : VSchema → Database → Option (List AnsweredStatement) → Database → Type 0
Sees schema db None rows = rows ≡ db
Sees schema db (Some told) rows = InTurn schema db told rows

-- Refusals that end a transaction, with nothing committed: limits, and shards that change places, are nothing of the database's.
abbrev pub IsEnding : Refusal → Type 0
IsEnding ShardMoved = Unit {0}
IsEnding ShardFull = Unit {0}
IsEnding _ = ⊥

-- What the text of a statement may tell, and the state after it, which a refusal leaves as it was, or without its transaction. BEGIN in a
-- transaction is refused. If there is no memory for the rows of an answer, its outcome is F1.
pub data MeansOver (schema : VSchema) (s : OneState) (text : List ℕ) : Outcome → OneState → Type 0 where
  answered : {outcome : Outcome} {now : OneState} (answer : Answer) → AnswersNext schema s text answer now → Shows schema answer outcome
      → MeansOver schema s text outcome now
  untold : {now : OneState} (answer : Answer) → AnswersNext schema s text answer now → HasRows answer → MeansOver schema s text (Refused OutOfMemory) now
  refused : {r : Refusal} (rows : Database) → Sees schema s.db s.open_one rows → IsRefusedOver schema rows text r → MeansOver schema s text (Refused r) s
  begun_twice : {told : List AnsweredStatement} (statement : Statement) → s.open_one ≡ Some told → Reads text statement → typed_statement schema statement ≡ Ok typed.Begin
      → MeansOver schema s text (Refused NotSupported) s
  ends : {r : Refusal} {told : List AnsweredStatement} → s.open_one ≡ Some told → IsEnding r → MeansOver schema s text (Refused r) (record { db = s.db; open_one = None })

-- ---- and the run

abbrev pub told_of : TransactionStatement → AnsweredStatement
told_of step = record { typed = step.typed; answer = step.answer }

-- a statement that wrote on no shard leaves the database
abbrev pub LeavesAll : VSchema → Database → TransactionStatement → Type 0
LeavesAll schema db step = write_on step.on step.typed ≡ [] → (after : Database) → GivesOver schema db step.typed step.answer after → after ≡ db

-- The transaction's statements were answered one after the other from what the run leaves, and since the first of them nothing was committed.
pub record IsOpenOver (o : Opening) (run : Run) (t : Transaction) (told : List AnsweredStatement) : Type 0 where
  pub at : NoCommits t.at run
  pub same : told ≡ map told_of t.steps
  pub seen : AllByRecursion (λ step. NoCommits step.seen run) t.steps
  pub over : (after : Database) × GiveOver o.schema (database o run) t.steps after
  pub idle : AllByRecursion (LeavesAll o.schema (database o run)) t.steps

abbrev pub IsOverAt : Opening → Run → Option Transaction → Option (List AnsweredStatement) → Type 0
IsOverAt o run None None = Unit {0}
IsOverAt o run (Some t) (Some told) = IsOpenOver o run t told
IsOverAt o run _ _ = ⊥

-- What a session knows, and the one database as the run leaves it that it has seen, with its transaction.
pub record Alone (o : Opening) : Type 0 where
  pub kept : PassAndTransaction
  pub state : OneState
  pub rows : state.db ≡ database o kept.pass.seen
  pub tx : IsOverAt o kept.pass.seen kept.tx state.open_one

-- an outcome that the text may have, and that one database may tell
pub record MeansAlone (o : Opening) (limits : Limits) (s : Alone o) (text : List ℕ) (outcome : Outcome) (now : Alone o) : Type 0 where
  pub means : Means o limits s.kept text outcome now.kept
  pub over : MeansOver o.schema s.state text outcome now.state

-- its transaction is dropped
abbrev pub without_transaction : {o : Opening} → Alone o → Alone o
without_transaction s = record { kept = none_open s.kept.pass; state = record { db = s.state.db; open_one = None }; rows = s.rows; tx = tt }

-- the context of a conversation over it
abbrev pub alone_context : (o : Opening) → Handshake → SessionContext (Alone o)
alone_context o handshake = record { handshake = handshake; schema = o.schema; is_open = λ s. is_some s.state.open_one; dropped = without_transaction }

-- before its first statement
abbrev pub alone_first : (o : Opening) → PassView Entry → Alone o
alone_first o p = record { kept = none_open p; state = record { db = database o p.seen; open_one = None }; rows = refl; tx = tt }
