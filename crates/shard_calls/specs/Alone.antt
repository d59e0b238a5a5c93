-- What a statement gives over one database, which knows no shards, passes or entries.
use Rattle.std.specs.Prelude.{◌≡◌, ℕ, List, [], ◌∷◌, ◌++◌, length, Some, None, Ok, Err}
use Rattle.std.specs.List.{AllByRecursion}
use Rattle.vt_value.specs.declared.refusal.Refusal.{Refusal}
use Rattle.vt_value.specs.declared.refusal.Refusal.TheVariants.{OutOfMemory, SyntaxError, SeveralShards, DuplicateKey, BufferFull, ShardFull}
use Rattle.sql_tree.specs.declared.Statement.{Statement}
use Rattle.sql_parser.specs.Grammar.{Reads}
use Rattle.vschema.specs.declared.schema.VSchema.{VSchema}
use Rattle.vschema.specs.declared.schema.Query.{Query}
use Rattle.vschema.specs.declared.schema.Typed.{Typed}
use Rattle.vschema.specs.declared.schema.Typed.TheVariants as typed
use Rattle.vschema.specs.declared.changes.Write.{Write}
use Rattle.vschema.specs.declared.changes.RowChange.{RowChange}
use Rattle.vschema.specs.Database.{Database, all_applied}
use Rattle.vschema.specs.TypedStatement.{typed_statement}
use Rattle.shard.specs.Queries.{Allowed}
use Rattle.shard.specs.Writes.{changes_of}
use Rattle.journal.specs.Views.{PassView}
use Rattle.shard.specs.Entry.{Entry}
use Rattle.shard.specs.Runs.{Run}
use Rattle.shard.specs.Legal.{IsChangeOf}
use Rattle.shard.specs.Entries.{commit_of}
use Rattle.shard_calls.specs.declared.reply.Selected.{Selected}
use Rattle.shard_calls.specs.declared.reply.Answer.{Answer}
use Rattle.shard_calls.specs.declared.reply.Answer.TheVariants.{Rows, Count}

-- a commit of the session, or an entry that is no commit: shards copy, follow and change places
abbrev pub IsNoOthers : ℕ → Entry → Type 0
IsNoOthers session e = (c : ℕ × ℕ) → commit_of e ≡ Some c → c.0 ≡ session

-- no other session between: of the commits of what the pass has newly seen all are its own session's
pub record NoOthers (p now : PassView Entry) : Type 0 where
  pub session : ℕ
  pub of_session : p.session ≡ Some session
  pub added : List Entry
  pub seen : now.seen ≡ p.seen ++ added
  pub own : AllByRecursion (IsNoOthers session) added

-- a run goes on from another without commits, and so with the same one database
pub record NoCommits (before now : Run) : Type 0 where
  pub added : List Entry
  pub seen : now ≡ before ++ added
  pub none : AllByRecursion (λ e. commit_of e ≡ None) added

-- What a typed statement gives over a database, and the database after it. A query has rows that it may answer over it, and changes
-- nothing. A write makes its changes, in some order, and counts them. SET NAMES counts 0.
pub data GivesOver (schema : VSchema) (db : Database) : Typed → Answer → Database → Type 0 where
  selects : {query : Query} {selected : Selected} → selected.table ≡ query.table → selected.join ≡ query.join → selected.items ≡ query.items
      → selected.qualified ≡ query.qualified → Allowed query db selected.rows → GivesOver schema db (typed.Select query) (Rows selected) db
  writes : {w : Write} (changes : List RowChange) → IsChangeOf schema w db changes
      → GivesOver schema db (typed.Write w) (Count (length changes)) (all_applied changes db)
  sets_names : GivesOver schema db typed.SetNames (Count 0) db

-- Statements gave their answers, one after the other, from the one database to the other.
module _ {S : Type 0} (typed_of : S → Typed) (answer_of : S → Answer) (schema : VSchema) (db : Database) where
  pub data GiveInTurn : List S → Database → Type 0 where
    none : GiveInTurn [] db
    next : {before : List S} {mid after : Database} (s : S) → GiveInTurn before mid → GivesOver schema mid (typed_of s) (answer_of s) after
        → GiveInTurn (before ++ s ∷ []) after

-- a query or a write
abbrev pub UsesTables : Typed → Type 0
UsesTables (typed.Select q) = Unit {0}
UsesTables (typed.Write w) = Unit {0}
UsesTables _ = ⊥

-- Why a text is refused over a database: it has no tree; its tree is refused under the VSchema; a primary key of it is there already.
-- Memory, limits, the shards that a query or a write needs and those that change places are nothing of the database's.
pub data IsRefusedOver (schema : VSchema) (db : Database) (text : List ℕ) : Refusal → Type 0 where
  no_tree : ((statement : Statement) → Reads text statement → ⊥) → IsRefusedOver schema db text SyntaxError
  not_typed : {r : Refusal} (statement : Statement) → Reads text statement → typed_statement schema statement ≡ Err r → IsRefusedOver schema db text r
  duplicate : (statement : Statement) (w : Write) → Reads text statement → typed_statement schema statement ≡ Ok (typed.Write w)
      → changes_of schema w db ≡ Err DuplicateKey → IsRefusedOver schema db text DuplicateKey
  no_memory : IsRefusedOver schema db text OutOfMemory
  several : (statement : Statement) (t : Typed) → Reads text statement → typed_statement schema statement ≡ Ok t → UsesTables t
      → IsRefusedOver schema db text SeveralShards
  waits : (statement : Statement) (t : Typed) → Reads text statement → typed_statement schema statement ≡ Ok t → UsesTables t
      → IsRefusedOver schema db text BufferFull
  full : IsRefusedOver schema db text ShardFull
