-- What `vtgate script` reads and prints: a VSchema, and lines that are run in order.
use Rattle.std.specs.Prelude.{◌≡◌, ◌≢◌, ℕ, List, [], ◌∷◌, ◌++◌, codes, length, Option, Some, None, Ok}
use Rattle.std.specs.List.{AllByRecursion}
use Rattle.std.specs.Io.KnownBytes.{Appends, Consumes, IsAtEnd}
use Rattle.vt_value.specs.declared.refusal.Refusal.{Refusal}
use Rattle.vt_value.specs.declared.refusal.Refusal.TheVariants.{OutOfMemory}
use Rattle.keyrange.specs.declared.KeyRange.{KeyRange}
use Rattle.vschema.specs.declared.schema.VSchema.{VSchema}
use Rattle.vschema.specs.Database.{Database}
use Rattle.vschema.specs.Meant.{contents, schema_read}
use Rattle.journal.specs.Views.{PassView, new_pass}
use Rattle.shard_run.specs.declared.Entry.{Entry}
use Rattle.shard_run.specs.Runs.{Run, Opening, database}
use Rattle.shard_law.specs.Entries.{most_limits}
use Rattle.vtgate_clients.specs.Answer.{Answer}
use Rattle.vtgate_clients.specs.Answer.TheVariants.{Rows, Count}
use Rattle.vtgate_clients.specs.Reply.{Reply}
use Rattle.vtgate_clients.specs.ShardCallsAlone.{NoOthers, NoCommits, IsRefusedOver}
use Rattle.vtgate_clients.specs.Transactions.{IsReplyTo, IsRefusedAt}
use Rattle.shard_run.specs.opening.Empty.{opening_of, FitRanges}
use Rattle.vtgate_clients.specs.Means.{PassAndTransaction, none_open, HasRows}
use Rattle.vtgate_clients.specs.Alone.{AnsweredStatement}
use Rattle.vtgate_clients.specs.Among.{AnswersAmong, told_in}
use Rattle.vtgate_lines.specs.Lines.{IsStatementLine, IsAdminLine, IsNextLine}
use Rattle.vtgate_lines.specs.Partitions.{NamesPartition}
use Rattle.admin.specs.declared.reply.AdminReply.{AdminReply}
use Rattle.admin.specs.AdminAnswers.{AdministratorView, IsAdminReply}
use Rattle.admin.specs.Words.{reply_text}
use Rattle.admin.specs.Idle.{opening_workflow}
use Rattle.vtgate_lines.specs.Printed.{rows_text, count_text, refusal_text}
use Rattle.vtgate_clients.specs.setup.Inputs.{Known}

-- what is printed of an answer: its rows, or its count
abbrev pub answer_text : Answer → List ℕ
answer_text (Rows selected) = rows_text selected.rows
answer_text (Count n) = count_text n

-- What is printed for the text of a statement: an answer that it may have after what its session's pass had seen, in the session's open
-- transaction if one is, or a refusal for its cause. If there is no memory to print rows, that is printed in their place. And what the pass
-- has seen then, and the transaction.
pub data Prints (o : Opening) (s : PassAndTransaction) (sql : List ℕ) : List ℕ → PassAndTransaction → Type 0 where
  answered : {now : PassAndTransaction} (reply : Reply) → IsReplyTo o most_limits s sql reply now → Prints o s sql (answer_text reply.answer) now
  untold : {now : PassAndTransaction} (reply : Reply) → IsReplyTo o most_limits s sql reply now → HasRows reply.answer
      → Prints o s sql (refusal_text OutOfMemory) now
  refused : {r : Refusal} {now : PassAndTransaction} → IsRefusedAt o most_limits s sql r now → Prints o s sql (refusal_text r) now

-- What is printed for the text of a statement over the one database that there is, which knows no shards; the database after it, and the answered
-- statements of its session's transaction. A refusal leaves the database, and all but its session's transaction. Without one it is for a cause
-- over that database.
pub data PrintsAmong (o : Opening) (db : Database) (open_one : Option (List AnsweredStatement)) (sql : List ℕ) : List ℕ → Database → Option (List AnsweredStatement) → Type 0 where
  answered : {after : Database} {then : Option (List AnsweredStatement)} (answer : Answer) → AnswersAmong o db open_one sql answer after then
      → PrintsAmong o db open_one sql (answer_text answer) after then
  untold : {after : Database} {then : Option (List AnsweredStatement)} (answer : Answer) → AnswersAmong o db open_one sql answer after then → HasRows answer
      → PrintsAmong o db open_one sql (refusal_text OutOfMemory) after then
  refused : (r : Refusal) → (open_one ≡ None → IsRefusedOver o.schema db sql r) → PrintsAmong o db open_one sql (refusal_text r) db open_one
  ends : (r : Refusal) {told : List AnsweredStatement} → open_one ≡ Some told → PrintsAmong o db open_one sql (refusal_text r) db None

-- That is printed; no other session commits meanwhile; and so it is what is printed over the one database that there is.
pub record PrintsAt (o : Opening) (s : PassAndTransaction) (sql text : List ℕ) (now : PassAndTransaction) : Type 0 where
  pub prints : Prints o s sql text now
  pub others : NoOthers s.pass now.pass
  pub over : PrintsAmong o (database o s.pass.seen) (told_in s.tx) sql text (database o now.pass.seen) (told_in now.tx)

-- a session of a script: its name, its pass and its open transaction
pub record Session : Type 0 where
  pub name : List ℕ
  pub state : PassAndTransaction

-- what a script has come to: its sessions, in the order of their first lines, and the run that its lines so far have seen
pub record ScriptProgress : Type 0 where
  pub sessions : List Session
  pub seen : Run

-- no line yet
abbrev pub at_first : ScriptProgress
at_first = record { sessions = []; seen = [] }

-- a pass that has met those of all lines so far; the transaction stays
abbrev pub met : Run → PassAndTransaction → PassAndTransaction
met seen s = record s { pass = record s.pass { seen = seen } }

-- A statement of the session of a name, over what all lines before it have left, and no other session commits meanwhile. Its first line opens a
-- session, with the next number, in which no transaction is open.
pub data Runs (o : Opening) (s : ScriptProgress) (name sql : List ℕ) : List ℕ → ScriptProgress → Type 0 where
  first : {text : List ℕ} {now : PassAndTransaction} → AllByRecursion (λ x. x.name ≢ name) s.sessions
      → PrintsAt o (none_open (new_pass s.seen (Some (length s.sessions)))) sql text now
      → Runs o s name sql text (record { sessions = s.sessions ++ record { name = name; state = now } ∷ []; seen = now.pass.seen })
  again : {text : List ℕ} {now : PassAndTransaction} (before after : List Session) (state : PassAndTransaction)
      → s.sessions ≡ before ++ record { name = name; state = state } ∷ after
      → PrintsAt o (met s.seen state) sql text now
      → Runs o s name sql text (record { sessions = before ++ record { name = name; state = now } ∷ after; seen = now.pass.seen })

-- what answers a line that is none
abbrev pub unknown_text : List ℕ
unknown_text = codes "unknown\n"

-- What is printed for a line, over a workflow of the sharded keyspace, if there is one. An admin line is the controller's, whose pass has
-- seen what all lines before it have; nobody commits meanwhile, so that the one database stays.
pub data PrintsLine (o : Opening) (s : ScriptProgress) (workflow : AdministratorView) (text : List ℕ) : List ℕ → ScriptProgress → AdministratorView → Type 0 where
  statement : {printed : List ℕ} {now : ScriptProgress} (name sql : List ℕ) → IsStatementLine text name sql → Runs o s name sql printed now
      → PrintsLine o s workflow text printed now workflow
  admin : {reply : AdminReply} {after : AdministratorView} (words : List ℕ) (p q : PassView Entry) → IsAdminLine text words → p.seen ≡ s.seen
      → NoCommits s.seen q.seen → IsAdminReply o most_limits words p q reply workflow after → PrintsLine o s workflow text (reply_text reply) (record s { seen = q.seen }) after
  unknown : ((name sql : List ℕ) → IsStatementLine text name sql → ⊥) → ((words : List ℕ) → IsAdminLine text words → ⊥)
      → PrintsLine o s workflow text unknown_text s workflow

-- what is printed for all lines of an input, in order
pub data AllGive (o : Opening) : ScriptProgress → AdministratorView → List ℕ → List ℕ → ScriptProgress → AdministratorView → Type 0 where
  none : {s : ScriptProgress} {workflow : AdministratorView} → AllGive o s workflow [] [] s workflow
  next : {s mid now : ScriptProgress} {workflow amid after : AdministratorView} {input text rest printed out : List ℕ} → IsNextLine input text rest
      → PrintsLine o s workflow text printed mid amid → AllGive o mid amid rest out now after → AllGive o s workflow input (printed ++ out) now after

-- exactly that was printed, from this workflow on
pub record HasPrinted (o : Opening) (workflow : AdministratorView) (input : List ℕ) (taken now : Known) : Type 0 where
  pub out : List ℕ
  pub last : ScriptProgress
  pub after : AdministratorView
  pub gives : AllGive o at_first workflow input out last after
  pub printed : Appends taken now out

-- The input was read to its end. Its first line declares the VSchema, and the others are run over it and the ranges that the word of the
-- shards tells, from no rows and no workflow on.
pub record HasScripted (shards : List ℕ) (unread rest taken now : Known) : Type 0 where
  pub text : List ℕ
  pub consumed : Consumes unread rest text
  pub end : IsAtEnd rest
  pub declaration : List ℕ
  pub lines : List ℕ
  pub first : IsNextLine text declaration lines
  pub schema : VSchema
  pub declared : schema_read declaration ≡ Ok (contents schema)
  pub ranges : List KeyRange
  pub partition : NamesPartition shards ranges
  pub fit : FitRanges schema ranges
  pub given : HasPrinted (opening_of schema ranges) (opening_workflow schema ranges) lines taken now
