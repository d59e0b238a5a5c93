-- Transactions of a session: what their statements give, over one database, and what a commit does.
use Rattle.std.specs.Prelude.{◌≡◌, ◌≢◌, ℕ, ◌≤◌, ◌^◌, true, List, [], ◌∷◌, ◌++◌, length, filter, flat_map, Contains, Option, Some, None, Ok, Err}
use Rattle.std.specs.List.{AllByRecursion}
use mathlib.Core.List.{IsPrefix}
use Rattle.vt_value.specs.declared.refusal.Refusal.{Refusal}
use Rattle.vt_value.specs.declared.refusal.Refusal.TheVariants.{OutOfMemory, SyntaxError, NotSupported, SeveralShards, Conflict, DuplicateKey, ShardMoved, ShardFull}
use Rattle.sql_tree.specs.declared.Statement.{Statement}
use Rattle.sql_parser.specs.Grammar.{Reads}
use Rattle.vschema.specs.declared.schema.Query.{Query}
use Rattle.vschema.specs.declared.schema.VSchema.{VSchema}
use Rattle.vschema.specs.declared.schema.Typed.{Typed}
use Rattle.vschema.specs.declared.schema.Typed.TheVariants as typed
use Rattle.vschema.specs.declared.changes.Write.{Write}
use Rattle.vschema.specs.declared.changes.RowChange.{RowChange}
use Rattle.vschema.specs.Database.{Database, all_applied}
use Rattle.vschema.specs.Sources.{source_tables}
use Rattle.vschema.specs.TypedStatement.{typed_statement}
use Rattle.shard.specs.Writes.{written_table, changes_of}
use Rattle.planner.specs.Routes.{table_at, route_of}
use Rattle.journal.specs.Runs.{IsLegal, by_session}
use Rattle.journal.specs.Views.{PassView}
use Rattle.shard.specs.ShardRecord.{ShardRecord}
use Rattle.shard.specs.Commit as C
use Rattle.shard.specs.Mode.TheVariants.{Serving}
use Rattle.shard.specs.Event.TheVariants.{Commit}
use Rattle.shard.specs.Entry.{Entry}
use Rattle.shard.specs.Runs.{Run, Opening, database, shard_rows, mode, entries_on}
use Rattle.shard.specs.Legal.{AreChangesOf}
use Rattle.serving.specs.Partitions.{Seat, IsPartition}
use Rattle.shard.specs.Limits.{Limits}
use Rattle.shard.specs.Entries.{MayFollow, HasLooked, commit_of}
use Rattle.shard.specs.Commits.{HasRoom}
use Rattle.shard.specs.Transactions.{changes_table, entry_of}
use Rattle.shard_calls.specs.declared.reply.Answer.{Answer}
use Rattle.shard_calls.specs.declared.reply.Answer.TheVariants.{Count}
use Rattle.shard_calls.specs.declared.reply.ShardRead.{ShardRead}
use Rattle.shard_calls.specs.declared.reply.Reply.{Reply}
use Rattle.shard.specs.Seats.{seat_of}
use Rattle.shard_calls.specs.Answers.{counted, needed, needed_by, NeedsAlone, HasGone, HasServed, IsFoundPartition, Gives, MayReadRefuse, MayWriteRefuse}
use Rattle.shard_calls.specs.Alone.{GiveInTurn}

-- ---- what a transaction is

-- an answered statement of a transaction, the shard that it used, if it needed one, and the run that its session had seen when it was answered
pub record TransactionStatement : Type 0 where
  pub typed : Typed
  pub answer : Answer
  pub on : Option ShardRecord
  pub seen : Run

-- a partition of a keyspace
pub record KeptPartition : Type 0 where
  pub keyspace : ℕ
  pub seats : List Seat

-- An open transaction: its answered statements in order, and the run at the last of them that used a shard; before any, the one that its
-- session had seen when it began. Once one of them has used a shard it keeps the partition by which the first of these needed it.
pub record Transaction : Type 0 where
  pub at : Run
  pub steps : List TransactionStatement
  pub kept : Option KeptPartition

-- what a session's pass has seen, and its open transaction
pub record PassAndTx : Type 0 where
  pub pass : PassView Entry
  pub tx : Option Transaction

-- ---- one database

abbrev pub GiveOver : VSchema → Database → List TransactionStatement → Database → Type 0
GiveOver = GiveInTurn (λ (step : TransactionStatement). step.typed) (λ (step : TransactionStatement). step.answer)

-- The statements gave what they mean over the one database as the run leaves it, each with those before it done.
abbrev pub AreOver : Opening → Run → List TransactionStatement → Type 0
AreOver o run steps = (after : Database) × GiveOver o.schema (database o run) steps after

-- ---- the shards that it needs and uses

-- the seats of a partition that a query needs
abbrev pub needed_for : Opening → Query → List Seat → List Seat
needed_for o q seats = needed (table_at o.schema q.table) (route_of (table_at o.schema q.table) q.join q.filter) seats

abbrev pub ReadsAlone : Opening → Query → ShardRecord → Type 0
ReadsAlone o q s = NeedsAlone (table_at o.schema q.table) (route_of (table_at o.schema q.table) q.join q.filter) s

-- the keyspace of a query or a write
abbrev pub statement_keyspace : Opening → Typed → Option ℕ
statement_keyspace o (typed.Select q) = Some (table_at o.schema q.table).keyspace
statement_keyspace o (typed.Write w) = Some (table_at o.schema (written_table w)).keyspace
statement_keyspace o _ = None

-- the seats of a partition that a statement needs
abbrev pub seats_for : Opening → Typed → List Seat → List Seat
seats_for o (typed.Select q) seats = needed_for o q seats
seats_for o (typed.Write w) seats = needed_by o w seats
seats_for o _ seats = []

-- a query or a write that needs no shard by some partition; or SET NAMES
abbrev pub NeedsNone : Opening → Typed → Type 0
NeedsNone o (typed.Select q) = (seats : List Seat) × IsPartition seats × (needed_for o q seats ≡ [])
NeedsNone o (typed.Write w) = (seats : List Seat) × IsPartition seats × (needed_by o w seats ≡ [])
NeedsNone o typed.SetNames = Unit {0}
NeedsNone o _ = ⊥

-- The partition by which a statement of the transaction is judged: on the keyspace of its shard the one that it keeps.
pub record IsJudgedBy (o : Opening) (t : Transaction) (typed : Typed) (seats : List Seat) : Type 0 where
  pub partition : IsPartition seats
  pub kept : (k : KeptPartition) → t.kept ≡ Some k → statement_keyspace o typed ≡ Some k.keyspace → seats ≡ k.seats

-- by this partition a query or a write of the transaction needs this shard alone
pub record NeedsBy (o : Opening) (t : Transaction) (typed : Typed) (seats : List Seat) (s : ShardRecord) : Type 0 where
  pub judged : IsJudgedBy o t typed seats
  pub keyspace : statement_keyspace o typed ≡ Some s.place.keyspace
  pub only : seats_for o typed seats ≡ seat_of s ∷ []

abbrev pub if_any : Option ShardRecord → List ShardRecord
if_any None = []
if_any (Some s) = s ∷ []

-- the shard of each statement that used one
abbrev pub used : List TransactionStatement → List ShardRecord
used steps = flat_map (λ step. if_any step.on) steps

abbrev pub write_on : Option ShardRecord → Typed → List Write
write_on (Some s) (typed.Write w) = w ∷ []
write_on _ _ = []

-- its writes that used a shard, in order
abbrev pub writes_in : List TransactionStatement → List Write
writes_in steps = flat_map (λ step. write_on step.on step.typed) steps

-- ---- conflicts

-- the tables that a query is over, or the one of a write
abbrev pub tables_of : Typed → List ℕ
tables_of (typed.Select q) = source_tables q
tables_of (typed.Write w) = written_table w ∷ []
tables_of _ = []

-- After a statement of the transaction another session's commit on the shard that it used has changed a row of a table of that statement.
pub record IsConflict (o : Opening) (s : ShardRecord) (session : Option ℕ) (run : Run) (steps : List TransactionStatement) : Type 0 where
  pub step : TransactionStatement
  pub is : Contains steps step
  pub on : step.on ≡ Some s
  pub table : ℕ
  pub touched : Contains (tables_of step.typed) table
  pub trailing : List Entry
  pub since : run ≡ step.seen ++ trailing
  pub commit : C.Commit
  pub there : Contains trailing (record { shard = s; event = Commit commit })
  pub other : session ≢ Some commit.session
  pub changed : changes_table table (record { shard = s; event = Commit commit }) ≡ true

-- ---- what its statements give

-- one more statement of a transaction
abbrev pub with_step : List TransactionStatement → Typed → Answer → Option ShardRecord → Run → List TransactionStatement
with_step steps t answer on seen = steps ++ record { typed = t; answer = answer; on = on; seen = seen } ∷ []

-- what is told of the shard that a query read
abbrev pub reads_of : Typed → ShardRecord → Run → List ShardRead
reads_of (typed.Select q) s run = record { slot = s.slot; entries = length (entries_on s.slot run) } ∷ []
reads_of _ s run = []

-- The session of the pass has committed these statements on the shard: one look, then one entry with their writes, in order, and this alone is
-- new of its session. Up to the entry none of their tables was changed by another session, and the statements lead from the one database right
-- before the entry to the one right after it.
pub record IsCommitted (o : Opening) (limits : Limits) (s : ShardRecord) (p : PassView Entry) (steps : List TransactionStatement) (now : PassView Entry) : Type 0 where
  pub looked : PassView Entry
  pub look : HasLooked o s.slot p looked
  pub before : Run
  pub later : IsPrefix looked.seen before
  pub own : (n : ℕ) → p.session ≡ Some n → filter (by_session commit_of n) before ≡ filter (by_session commit_of n) p.seen
  pub session : ℕ
  pub of_session : p.session ≡ Some session
  pub changes : List RowChange
  pub seen : now.seen ≡ before ++ entry_of s session p.statements (writes_in steps) changes ∷ []
  pub legal : IsLegal (MayFollow o) now.seen
  pub room : HasRoom o limits s before changes
  pub clear : IsConflict o s p.session before steps → ⊥
  pub over : GiveOver o.schema (database o before) steps (database o now.seen)
  pub pass : now ≡ record looked { seen = now.seen }

-- What a statement gives in an open transaction. One that needs no shard gives what it means with those before it. One that needs a shard needs
-- the transaction's, which serves at a look, up to which no other session has changed a table of an earlier statement, and then all statements
-- so far give what they mean over the one database as it is at this look. The partition by which the first of them needed it is kept, and tells
-- which shards the later ones need. So it is if a commit has read alone, which adds nothing; one that
-- has written adds one entry. A rollback adds nothing.
pub data GivesIn (o : Opening) (limits : Limits) (p : PassView Entry) (t : Transaction) : Typed → Reply → PassAndTx → Type 0 where
  nowhere : {typed : Typed} {answer : Answer} → NeedsNone o typed → AreOver o t.at (with_step t.steps typed answer None p.seen)
      → GivesIn o limits p t typed (record { answer = answer; reads = [] })
      (record { pass = p; tx = Some (record { at = t.at; steps = with_step t.steps typed answer None p.seen; kept = t.kept }) })
  on_shard : {typed : Typed} {answer : Answer} {now : PassView Entry} (s : ShardRecord) (seats : List Seat) → NeedsBy o t typed seats s
      → AllByRecursion (λ u. u ≡ s) (used t.steps) → HasLooked o s.slot p now → mode o now.seen s.slot ≡ Serving
      → (IsConflict o s p.session now.seen t.steps → ⊥) → AreOver o now.seen (with_step t.steps typed answer (Some s) now.seen)
      → GivesIn o limits p t typed (record { answer = answer; reads = reads_of typed s now.seen })
      (record {
        pass = now;
        tx = Some (record {
          at = now.seen;
          steps = with_step t.steps typed answer (Some s) now.seen;
          kept = Some (record { keyspace = s.place.keyspace; seats = seats });
        });
      })
  commits_nothing : used t.steps ≡ [] → GivesIn o limits p t typed.Commit (record { answer = Count 0; reads = [] }) (record { pass = p; tx = None })
  commits_reads : {now : PassView Entry} (s : ShardRecord) → Contains (used t.steps) s → writes_in t.steps ≡ [] → HasLooked o s.slot p now
      → mode o now.seen s.slot ≡ Serving → (IsConflict o s p.session now.seen t.steps → ⊥) → AreOver o now.seen t.steps
      → GivesIn o limits p t typed.Commit (record { answer = Count 0; reads = [] }) (record { pass = now; tx = None })
  commits_writes : {now : PassView Entry} (s : ShardRecord) → Contains (used t.steps) s → writes_in t.steps ≢ [] → IsCommitted o limits s p t.steps now
      → GivesIn o limits p t typed.Commit (record { answer = Count 0; reads = [] }) (record { pass = now; tx = None })
  rolls_back : GivesIn o limits p t typed.Rollback (record { answer = Count 0; reads = [] }) (record { pass = p; tx = None })

-- What a typed statement gives. Without an open transaction each is one by itself; BEGIN opens one, COMMIT and ROLLBACK do nothing.
pub data GivesAt (o : Opening) (limits : Limits) (p : PassView Entry) : Option Transaction → Typed → Reply → PassAndTx → Type 0 where
  alone : {t : Typed} {reply : Reply} {now : PassView Entry} → Gives o limits p t reply now
      → GivesAt o limits p None t reply (record { pass = now; tx = None })
  begins : GivesAt o limits p None typed.Begin (record { answer = Count 0; reads = [] })
      (record { pass = p; tx = Some (record { at = p.seen; steps = []; kept = None }) })
  commits : GivesAt o limits p None typed.Commit (record { answer = Count 0; reads = [] }) (record { pass = p; tx = None })
  rolls_back : GivesAt o limits p None typed.Rollback (record { answer = Count 0; reads = [] }) (record { pass = p; tx = None })
  within : {tx : Transaction} {t : Typed} {reply : Reply} {now : PassAndTx} → GivesIn o limits p tx t reply now → GivesAt o limits p (Some tx) t reply now

-- The text is a statement under the VSchema, and the reply is what it gives; the pass has the statement's number.
pub record IsAnswerNow (o : Opening) (limits : Limits) (p : PassAndTx) (text : List ℕ) (reply : Reply) (now : PassAndTx) : Type 0 where
  pub statement : Statement
  pub typed : Typed
  pub reads : Reads text statement
  pub resolved : typed_statement o.schema statement ≡ Ok typed
  pub gives : GivesAt o limits p.pass p.tx typed reply now

-- a session once its next statement is numbered
abbrev pub numbered : PassAndTx → PassAndTx
numbered p = record p { pass = counted p.pass }

-- the same of a text, under the session's next number
abbrev pub IsReplyTo : Opening → Limits → PassAndTx → List ℕ → Reply → PassAndTx → Type 0
IsReplyTo o limits p text reply now = IsAnswerNow o limits (numbered p) text reply now

-- ---- why it is refused

-- the shard that a query or a write of the transaction needs alone, or of a commit the one that it has used
abbrev pub IsFor : Opening → Transaction → Typed → ShardRecord → Type 0
IsFor o t typed.Commit s = Contains (used t.steps) s
IsFor o t other s = (seats : List Seat) × NeedsBy o t other seats s

-- The transaction's own shard, at a run: one of the run, which has served. The statement is for it, and each that used a shard has used this one.
pub record IsItsShard (o : Opening) (t : Transaction) (typed : Typed) (run : Run) (s : ShardRecord) : Type 0 where
  pub for : IsFor o t typed s
  pub alone : AllByRecursion (λ u. u ≡ s) (used t.steps)
  pub served : HasServed o run s

-- a look at it, at which it serves, and up to which no other session has changed a table of the transaction
pub record IsUndisturbed (o : Opening) (p : PassView Entry) (t : Transaction) (s : ShardRecord) (now : PassView Entry) : Type 0 where
  pub looked : HasLooked o s.slot p now
  pub serves : mode o now.seen s.slot ≡ Serving
  pub clear : IsConflict o s p.session now.seen t.steps → ⊥

-- Why a statement of an open transaction is refused, and how that leaves the session, in the order of the causes. Before the transaction has used
-- a shard a statement may need several by a partition whose shards were found; then it may need another than its own, or several, by the partition
-- that it keeps; or some shard of another keyspace. All else is of its own shard at a look: that it is frozen or doesn't serve, that its tables were
-- changed, a primary key, and at a commit that has written a limit, which the changes of its writes there would pass. The transaction goes on, but
-- if its shard is frozen or doesn't serve, its tables were changed, or its commit has no room.
pub data IsRefusedIn (o : Opening) (limits : Limits) (p : PassView Entry) (t : Transaction) : Typed → Refusal → PassAndTx → Type 0 where
  no_memory : {typed : Typed} {now : PassView Entry} → HasGone o p now → IsRefusedIn o limits p t typed OutOfMemory (record { pass = now; tx = Some t })
  open_twice : IsRefusedIn o limits p t typed.Begin NotSupported (record { pass = p; tx = Some t })
  several : {typed : Typed} {now : PassView Entry} (keyspace : ℕ) (seats : List Seat) → used t.steps ≡ [] → statement_keyspace o typed ≡ Some keyspace
      → IsFoundPartition o p.seen now.seen keyspace seats → 2 ≤ length (seats_for o typed seats) → HasGone o p now
      → IsRefusedIn o limits p t typed SeveralShards (record { pass = now; tx = Some t })
  another : {typed : Typed} (k : KeptPartition) (u : ShardRecord) → Contains (used t.steps) u → t.kept ≡ Some k → k.keyspace ≡ u.place.keyspace → IsPartition k.seats
      → Contains k.seats (seat_of u) → statement_keyspace o typed ≡ Some k.keyspace → (seats_for o typed k.seats ≡ [] → ⊥)
      → (seats_for o typed k.seats ≡ seat_of u ∷ [] → ⊥) → IsRefusedIn o limits p t typed SeveralShards (record { pass = p; tx = Some t })
  elsewhere : {typed : Typed} (keyspace : ℕ) (seats : List Seat) (u : ShardRecord) → Contains (used t.steps) u → statement_keyspace o typed ≡ Some keyspace
      → (keyspace ≡ u.place.keyspace → ⊥) → IsPartition seats → (seats_for o typed seats ≡ [] → ⊥)
      → IsRefusedIn o limits p t typed SeveralShards (record { pass = p; tx = Some t })
  moved : {typed : Typed} {now : PassView Entry} (s : ShardRecord) → IsItsShard o t typed now.seen s → HasLooked o s.slot p now → mode o now.seen s.slot ≢ Serving
      → IsRefusedIn o limits p t typed ShardMoved (record { pass = now; tx = None })
  conflict : {typed : Typed} {now : PassView Entry} (s : ShardRecord) → IsItsShard o t typed now.seen s → HasLooked o s.slot p now
      → mode o now.seen s.slot ≡ Serving → IsConflict o s p.session now.seen t.steps
      → IsRefusedIn o limits p t typed Conflict (record { pass = now; tx = None })
  duplicate : {w : Write} {now : PassView Entry} (s : ShardRecord) (after : Database) → IsItsShard o t (typed.Write w) now.seen s → IsUndisturbed o p t s now
      → GiveOver o.schema (database o now.seen) t.steps after → changes_of o.schema w after ≡ Err DuplicateKey
      → IsRefusedIn o limits p t (typed.Write w) DuplicateKey (record { pass = now; tx = Some t })
  full : {now : PassView Entry} (s : ShardRecord) (changes : List RowChange) → IsItsShard o t typed.Commit now.seen s → IsUndisturbed o p t s now
      → writes_in t.steps ≢ [] → AreChangesOf o.schema (writes_in t.steps) (shard_rows o now.seen s) changes
      → GiveOver o.schema (database o now.seen) t.steps (all_applied changes (database o now.seen)) → (HasRoom o limits s now.seen changes → ⊥)
      → IsRefusedIn o limits p t typed.Commit ShardFull (record { pass = now; tx = None })

-- Why a typed statement is refused: a query or a write by itself, as without transactions; or one of an open transaction.
pub data IsRefusedBy (o : Opening) (limits : Limits) (p : PassView Entry) : Option Transaction → Typed → Refusal → PassAndTx → Type 0 where
  not_read : {q : Query} {r : Refusal} {now : PassView Entry} → MayReadRefuse o p q r now
      → IsRefusedBy o limits p None (typed.Select q) r (record { pass = now; tx = None })
  not_written : {w : Write} {r : Refusal} {now : PassView Entry} → MayWriteRefuse o limits p w r now
      → IsRefusedBy o limits p None (typed.Write w) r (record { pass = now; tx = None })
  within : {tx : Transaction} {t : Typed} {r : Refusal} {now : PassAndTx} → IsRefusedIn o limits p tx t r now → IsRefusedBy o limits p (Some tx) t r now

-- Why a numbered text is refused: a growth was refused; the text has no tree; its tree is refused under the VSchema; or what it means is refused.
pub data IsRefusedNow (o : Opening) (limits : Limits) (p : PassAndTx) (text : List ℕ) : Refusal → PassAndTx → Type 0 where
  no_memory : IsRefusedNow o limits p text OutOfMemory p
  no_tree : ((statement : Statement) → Reads text statement → ⊥) → IsRefusedNow o limits p text SyntaxError p
  not_typed : {r : Refusal} (statement : Statement) → Reads text statement → typed_statement o.schema statement ≡ Err r → IsRefusedNow o limits p text r p
  refused : {r : Refusal} {now : PassAndTx} (statement : Statement) (t : Typed) → Reads text statement → typed_statement o.schema statement ≡ Ok t
      → IsRefusedBy o limits p.pass p.tx t r now → IsRefusedNow o limits p text r now

-- Why a text is refused: its session's statement numbers are used up, which ends its transaction; or its numbered text is refused.
pub data IsRefusedAt (o : Opening) (limits : Limits) (p : PassAndTx) (text : List ℕ) : Refusal → PassAndTx → Type 0 where
  used_up : 2 ^ 62 ≤ p.pass.statements → IsRefusedAt o limits p text ShardFull (record { pass = p.pass; tx = None })
  refused : {r : Refusal} {now : PassAndTx} → IsRefusedNow o limits (numbered p) text r now → IsRefusedAt o limits p text r now
