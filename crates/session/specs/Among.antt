-- What a statement of one of several sessions gives over one database, which knows no shards, and the database after it.
use Rattle.std.specs.Prelude.{◌≡◌, ℕ, List, [], ◌∷◌, ◌++◌, map, Option, Some, None, Ok}
use Rattle.sql_tree.specs.declared.Statement.{Statement}
use Rattle.sql_parser.specs.Grammar.{Reads}
use Rattle.vschema.specs.declared.schema.Typed.{Typed}
use Rattle.vschema.specs.Database.{Database}
use Rattle.vschema.specs.TypedStatement.{typed_statement}
use Rattle.journal.specs.Runs.{IsLegal}
use Rattle.shard_run.specs.Runs.{Run, Opening, database}
use Rattle.route_engine.specs.Entries.{MayFollow}
use Rattle.route_engine.specs.Answer.{Answer}
use Rattle.route_engine.specs.Alone.{GivesOver}
use Rattle.route_engine.specs.Transactions.{Transaction}
use Rattle.session.specs.Alone.{AnsweredStatement, GivesNext, told_of}

-- the answered statements of a transaction, if one is open
abbrev pub told_in : Option Transaction → Option (List AnsweredStatement)
told_in None = None
told_in (Some t) = Some (map told_of t.steps)

-- the statement gives that over every database that the shards can come to, and leaves it
abbrev pub IsEverywhere : Opening → AnsweredStatement → Type 0
IsEverywhere o t = (run : Run) → IsLegal (MayFollow o) run → GivesOver o.schema (database o run) t.typed t.answer (database o run)

-- What a statement gives over the database that there is now, the database after it, and the answered statements of the transaction that is open
-- then: what it gives if there is no other session; or, in a transaction, the same over every database that the shards can come to.
pub data GivesAmong (o : Opening) (db : Database) : Option (List AnsweredStatement) → Typed → Answer → Database → Option (List AnsweredStatement) → Type 0 where
  alone : {open_one then : Option (List AnsweredStatement)} {t : Typed} {answer : Answer} {after : Database}
      → GivesNext o.schema db open_one t answer (record { db = after; open_one = then }) → GivesAmong o db open_one t answer after then
  everywhere : {told : List AnsweredStatement} (t : AnsweredStatement) → IsEverywhere o t → GivesAmong o db (Some told) t.typed t.answer db (Some (told ++ t ∷ []))

-- the text is a statement under the VSchema, and the answer is what it gives
pub record AnswersAmong (o : Opening) (db : Database) (open_one : Option (List AnsweredStatement)) (text : List ℕ) (answer : Answer) (after : Database)
    (then : Option (List AnsweredStatement)) : Type 0 where
  pub statement : Statement
  pub typed : Typed
  pub reads : Reads text statement
  pub resolved : typed_statement o.schema statement ≡ Ok typed
  pub gives : GivesAmong o db open_one typed answer after then
