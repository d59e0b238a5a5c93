-- What answers the commands of prepared statements.
use Rattle.std.specs.Prelude.{◌≡◌, ℕ, ◌-◌, ◌^◌, ◌<◌, ◌≤◌, Bool, true, false, ◌||◌, List, [], ◌++◌, length, negsuc, Some, Ok, Err}
use Rattle.vt_value.specs.declared.refusal.Refusal.{Refusal}
use Rattle.vt_value.specs.declared.refusal.Refusal.TheVariants as r
use Rattle.sql_lexer.specs.Value.{Value}
use Rattle.sql_lexer.specs.Value.TheVariants.{Int, Null}
use Rattle.sql_tree.specs.declared.Statement.{Statement}
use Rattle.sql_tree.specs.declared.Statement.TheVariants.{Select}
use Rattle.sql_parser.specs.Grammar.{Reads}
use Rattle.vschema.specs.declared.schema.VSchema.{VSchema}
use Rattle.vschema.specs.declared.schema.Typed.{Typed}
use Rattle.vschema.specs.declared.schema.Typed.TheVariants as typed
use Rattle.vschema.specs.TypedStatement.{typed_statement}
use Rattle.mysql_packet.specs.Numbers.{little_endian}
use Rattle.mysql_packet.specs.Frames.{frame}
use Rattle.mysql_message.specs.declared.command.StatementFault.TheVariants.{UnknownStatement, TooManyStatements, WrongArguments}
use Rattle.mysql_message.specs.Messages.{Request, prepare, execute, long_data, close, reset_statement, fetch, ok_payload, err_payload, fault_payload}
use Rattle.resultset.specs.declared.Column as R
use Rattle.resultset.specs.declared.SetEnd.{SetEnd}
use Rattle.resultset.specs.PreparedReplies.{prepare_encoded}
use Rattle.prepared_statements.specs.declared.held.Prepared.{Prepared}
use Rattle.prepared_statements.specs.Holes.{no_values}
use Rattle.prepared_statements.specs.Held.{HeldStatements, IsFull, held_at, newly_prepared, AddsHeld, RunsHeld, UsesHeld, WasTooLarge, ClosesHeld, LongHeld, ResetsHeld}
use Rattle.prepared_statements.specs.Texts.{pieces_of, TriedText, MayBePrepared}
use Rattle.client_words.specs.Aliases.{Names}
use Rattle.client_words.specs.Sayings.{IsSaidAs}
use Rattle.session.specs.conversation.Columns.{AreColumns}
use Rattle.session.specs.conversation.GivesText.{named_columns}

-- a refusal for a name that isn't known, which no value changes
abbrev pub names_unknown : Refusal → Bool
names_unknown r.UnknownTable = true
names_unknown r.UnknownColumn = true
names_unknown _ = false

abbrev pub is_select : Statement → Bool
is_select (Select s) = true
is_select _ = false

-- the columns of the rows of a typed statement: those of a SELECT, and else none
abbrev pub ShowsTyped : VSchema → Typed → List R.Column → Type 0
ShowsTyped schema (typed.Select q) columns = AreColumns schema q.table q.join q.items q.qualified columns
ShowsTyped schema _ columns = columns ≡ []

-- The columns of the rows that a statement gives. Here NULL stands where values will; a write may be refused for that, and shows no columns.
pub data ShowsColumns (schema : VSchema) (statement : Statement) (columns : List R.Column) : Type 0 where
  shows : {t : Typed} → typed_statement schema statement ≡ Ok t → ShowsTyped schema t columns → ShowsColumns schema statement columns
  unsure : {why : Refusal} → typed_statement schema statement ≡ Err why → (is_select statement || names_unknown why) ≡ false → columns ≡ []
      → ShowsColumns schema statement columns

-- these columns under the names that a client gave them
pub record ShowsNamed (schema : VSchema) (statement : Statement) (names : Names) (columns : List R.Column) : Type 0 where
  pub shown : List R.Column
  pub shows : ShowsColumns schema statement shown
  pub named : columns ≡ named_columns names shown

-- a text says this statement in other words, whose columns have these names
pub record SaysStatement (schema : VSchema) (text : List ℕ) (statement : Statement) (names : Names) : Type 0 where
  pub whole : List ℕ
  pub says : IsSaidAs schema text whole names
  pub reads : Reads whole statement

-- with the literal in its holes a text does
pub record SaysTried (schema : VSchema) (literal : Value) (pieces : List (List ℕ)) (statement : Statement) (names : Names) : Type 0 where
  pub text : List ℕ
  pub tried : TriedText literal pieces text
  pub says : SaysStatement schema text statement names

-- A text that may be prepared, or says one in other words with -1 in its holes, and with NULL; the statement and the names of its columns are those with NULL.
pub data MayBeHeld (schema : VSchema) (text : List ℕ) : List (List ℕ) → Statement → Names → Type 0 where
  read : {pieces : List (List ℕ)} {statement : Statement} → MayBePrepared text pieces statement → MayBeHeld schema text pieces statement []
  said : {pieces : List (List ℕ)} {literals statement : Statement} {others names : Names}
      → ((plain : List (List ℕ)) (tree : Statement) → MayBePrepared text plain tree → ⊥) → pieces ≡ pieces_of text → length pieces ≤ 4097
      → SaysTried schema (Int (negsuc 0)) pieces literals others → SaysTried schema Null pieces statement names → MayBeHeld schema text pieces statement names

-- why a text isn't prepared
pub data NotPrepared (schema : VSchema) (text : List ℕ) : Refusal → Type 0 where
  no_memory : NotPrepared schema text r.OutOfMemory
  no_text : ((pieces : List (List ℕ)) (statement : Statement) (names : Names) → MayBeHeld schema text pieces statement names → ⊥)
      → NotPrepared schema text r.SyntaxError
  refused : {pieces : List (List ℕ)} {statement : Statement} {names : Names} {why : Refusal} → MayBeHeld schema text pieces statement names
      → typed_statement schema statement ≡ Err why → (is_select statement || names_unknown why) ≡ true → NotPrepared schema text why

-- What answers a command of prepared statements that runs none, and what is held then. Parts and replies end as `end` says, under this status, from
-- this sequence number on. If there is no memory to tell of a statement, that is told. An execution that is refused uses the long data that came for it.
pub data AnswersStatement (schema : VSchema) (end : SetEnd) (status number : ℕ) (held : HeldStatements) : Request → List ℕ → HeldStatements → Type 0 where
  prepared : {text : List ℕ} {pieces : List (List ℕ)} {statement : Statement} {names : Names} {columns : List R.Column} {n : ℕ} {then : HeldStatements}
      → MayBeHeld schema text pieces statement names → ShowsNamed schema statement names columns → AddsHeld held (newly_prepared pieces (no_values pieces)) n then
      → AnswersStatement schema end status number held (prepare text) (prepare_encoded end n columns (length pieces - 1) number status) then
  untold : {text : List ℕ} {pieces : List (List ℕ)} {statement : Statement} {names : Names} {n : ℕ} {then : HeldStatements} → MayBeHeld schema text pieces statement names
      → AddsHeld held (newly_prepared pieces (no_values pieces)) n then
      → AnswersStatement schema end status number held (prepare text) (frame number (err_payload r.OutOfMemory)) then
  not_prepared : {text : List ℕ} {why : Refusal} → NotPrepared schema text why
      → AnswersStatement schema end status number held (prepare text) (frame number (err_payload why)) held
  too_many : {text : List ℕ} {pieces : List (List ℕ)} {statement : Statement} {names : Names} → MayBeHeld schema text pieces statement names → IsFull held pieces
      → AnswersStatement schema end status number held (prepare text) (frame number (fault_payload TooManyStatements)) held
  unknown : {bytes : List ℕ} {then : HeldStatements} → UsesHeld held bytes then
      → ((n : ℕ) (rest : List ℕ) (q : Prepared) → n < 2 ^ 32 → bytes ≡ little_endian 4 n ++ rest → held_at held n ≡ Some q → ⊥)
      → AnswersStatement schema end status number held (execute bytes) (frame number (fault_payload UnknownStatement)) then
  wrong : {bytes : List ℕ} {then : HeldStatements} → UsesHeld held bytes then → ((text : List ℕ) (after : HeldStatements) → RunsHeld held bytes text after → ⊥)
      → AnswersStatement schema end status number held (execute bytes) (frame number (fault_payload WrongArguments)) then
  not_supported : {bytes : List ℕ} {then : HeldStatements} → UsesHeld held bytes then → ((text : List ℕ) (after : HeldStatements) → RunsHeld held bytes text after → ⊥)
      → AnswersStatement schema end status number held (execute bytes) (frame number (err_payload r.NotSupported)) then
  too_long : {bytes : List ℕ} {then : HeldStatements} → UsesHeld held bytes then → WasTooLarge held bytes
      → AnswersStatement schema end status number held (execute bytes) (frame number (err_payload r.PacketTooLarge)) then
  no_memory : {bytes : List ℕ} {then : HeldStatements} → UsesHeld held bytes then
      → AnswersStatement schema end status number held (execute bytes) (frame number (err_payload r.OutOfMemory)) then
  closed : {bytes : List ℕ} {then : HeldStatements} → ClosesHeld held bytes then → AnswersStatement schema end status number held (close bytes) [] then
  takes_long : {bytes : List ℕ} {then : HeldStatements} → LongHeld held bytes then → AnswersStatement schema end status number held (long_data bytes) [] then
  reset : {bytes : List ℕ} {then : HeldStatements} → ResetsHeld held bytes then
      → AnswersStatement schema end status number held (reset_statement bytes) (frame number (ok_payload 0 status)) then
  not_reset : {bytes : List ℕ} → ((then : HeldStatements) → ResetsHeld held bytes then → ⊥)
      → AnswersStatement schema end status number held (reset_statement bytes) (frame number (fault_payload UnknownStatement)) held
  fetched : AnswersStatement schema end status number held fetch (frame number (err_payload r.NotSupported)) held
