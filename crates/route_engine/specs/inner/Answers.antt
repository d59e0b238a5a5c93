-- What a text gives outside a transaction, by the engine's own steps.
use Rattle.std.specs.Prelude.{◌≡◌, ℕ, ◌≤◌, ◌^◌, List, Bool, Ok, Err}
use Rattle.vt_value.specs.declared.refusal.Refusal.{Refusal}
use Rattle.vt_value.specs.declared.refusal.Refusal.TheVariants.{OutOfMemory, SyntaxError, ShardFull}
use Rattle.vt_value.specs.Values.{Row}
use Rattle.sql_tree.specs.declared.Item.{Item}
use Rattle.sql_tree.specs.declared.Statement.{Statement}
use Rattle.shard_calls.specs.Grammar.{Reads}
use Rattle.vschema.specs.declared.schema.Query.{Query}
use Rattle.vschema.specs.declared.schema.Typed.{Typed}
use Rattle.vschema.specs.declared.schema.Typed.TheVariants as typed
use Rattle.vschema.specs.declared.changes.Write.{Write}
use Rattle.vschema.specs.TypedStatement.{typed_statement}
use Rattle.journal.specs.Views.{PassView}
use Rattle.shard_run.specs.declared.Entry.{Entry}
use Rattle.shard_run.specs.Runs.{Opening}
use Rattle.shard_contents.specs.Limits.{Limits}
use Rattle.shard_calls.specs.declared.reply.Reply.{Reply}
use Rattle.shard_calls.specs.declared.reply.Answer.TheVariants.{Rows}
use Rattle.shard_calls.specs.declared.reply.ShardRead.{ShardRead}
use Rattle.shard_calls.specs.Answers.{counted, HasGone, HasRead, MayReadRefuse, Gives, MayWriteRefuse}

-- The text is a statement under the VSchema, and the reply is what it gives, from the pass with the statement's number.
pub record IsReply (o : Opening) (limits : Limits) (p : PassView Entry) (text : List ℕ) (reply : Reply) (now : PassView Entry) : Type 0 where
  pub statement : Statement
  pub typed : Typed
  pub reads : Reads text statement
  pub resolved : typed_statement o.schema statement ≡ Ok typed
  pub gives : Gives o limits p typed reply now

-- the reply that is made of these parts has the rows of the query
abbrev pub HasReadRows : Opening → PassView Entry → Query → List (Item ℕ) → List Bool → List Row → List ShardRead → PassView Entry → Type 0
HasReadRows o p query items qualified rows reads now = HasRead o p query (record {
  answer = Rows (record {
    table = query.table;
    join = query.join;
    items = items;
    qualified = qualified;
    rows = rows;
  });
  reads = reads;
}) now

-- Why a numbered text is refused: a growth was refused; the text has no tree; its tree is refused under the VSchema; or the query or the write
-- is refused.
pub data IsRefused (o : Opening) (limits : Limits) (p : PassView Entry) (text : List ℕ) : Refusal → PassView Entry → Type 0 where
  no_memory : {now : PassView Entry} → HasGone o p now → IsRefused o limits p text OutOfMemory now
  no_tree : ((statement : Statement) → Reads text statement → ⊥) → IsRefused o limits p text SyntaxError p
  not_typed : {r : Refusal} (statement : Statement) → Reads text statement → typed_statement o.schema statement ≡ Err r
      → IsRefused o limits p text r p
  not_read : {r : Refusal} {now : PassView Entry} (statement : Statement) (query : Query) → Reads text statement
      → typed_statement o.schema statement ≡ Ok (typed.Select query) → MayReadRefuse o p query r now → IsRefused o limits p text r now
  not_written : {r : Refusal} {now : PassView Entry} (statement : Statement) (w : Write) → Reads text statement
      → typed_statement o.schema statement ≡ Ok (typed.Write w) → MayWriteRefuse o limits p w r now → IsRefused o limits p text r now

-- Why a text is refused: its session's statement numbers are used up, or its numbered text is refused.
pub data IsRefusal (o : Opening) (limits : Limits) (p : PassView Entry) (text : List ℕ) : Refusal → PassView Entry → Type 0 where
  used_up : 2 ^ 62 ≤ p.statements → IsRefusal o limits p text ShardFull p
  numbered : {r : Refusal} {now : PassView Entry} → IsRefused o limits (counted p) text r now → IsRefusal o limits p text r now
