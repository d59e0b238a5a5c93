-- What a text gives over one database.
use Rattle.std.specs.Prelude.{◌≡◌, ℕ, List, Ok}
use Rattle.sql_tree.specs.declared.Statement.{Statement}
use Rattle.shard_calls.specs.Grammar.{Reads}
use Rattle.vschema.specs.Database.{Database}
use Rattle.vschema.specs.declared.schema.Typed.{Typed}
use Rattle.vschema.specs.declared.schema.VSchema.{VSchema}
use Rattle.vschema.specs.TypedStatement.{typed_statement}
use Rattle.shard_calls.specs.declared.reply.Answer.{Answer}
use Rattle.shard_calls.specs.Alone.{GivesOver}

-- the text is a statement under the VSchema, and the answer is what it gives over the database
pub record AnswersOver (schema : VSchema) (db : Database) (text : List ℕ) (answer : Answer) (after : Database) : Type 0 where
  pub statement : Statement
  pub typed : Typed
  pub reads : Reads text statement
  pub resolved : typed_statement schema statement ≡ Ok typed
  pub gives : GivesOver schema db typed answer after
