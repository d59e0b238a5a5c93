-- What a text gives its client: what it means over the tables, in a transaction that is opened first if autocommit is off; or, if it is
-- no SQL that is run, what the session answers by itself to what the text asks of a server, or what it means in other words.
use Rattle.std.specs.Prelude.{◌≡◌, ℕ, Bool, true, false, List, [], ◌∷◌, ◌++◌, codes, Option, Some, None}
use Rattle.vt_value.specs.declared.refusal.Refusal.{Refusal}
use Rattle.vt_value.specs.declared.refusal.Refusal.TheVariants as r
use Rattle.vt_value.specs.Values.{Row}
use Rattle.sql_tree.specs.declared.Statement.{Statement}
use Rattle.sql_tree.specs.declared.Statement.TheVariants.{Select, Insert, Update, Delete}
use Rattle.sql_parser.specs.Grammar.{Reads}
use Rattle.vschema.specs.declared.schema.VSchema.{VSchema}
use Rattle.resultset.specs.declared.Column as R
use Rattle.resultset.specs.declared.Kind.TheVariants.{VarBinary}
use Rattle.resultset.specs.declared.Outcome.{Outcome}
use Rattle.resultset.specs.declared.Outcome.TheVariants.{Rows, Count, Refused}
use Rattle.client_statements.specs.declared.answers.Facts.{Facts}
use Rattle.client_statements.specs.declared.answers.ClientAnswer.{ClientAnswer}
use Rattle.client_statements.specs.declared.answers.ClientAnswer.TheVariants as a
use Rattle.client_statements.specs.declared.statement.ClientStatement.{ClientStatement}
use Rattle.client_statements.specs.declared.statement.ClientStatement.TheVariants.{Set, Begin, NotSupported, Use}
use Rattle.client_statements.specs.Answers.{has_client_answer, IsClientAnswer}
use Rattle.client_statements.specs.Asks.{Asks, IsSet}
use Rattle.client_words.specs.Sayings.{IsSaidAs}
use Rattle.session.specs.declared.conversation.access.Handshake.{Handshake}
use Rattle.session.specs.declared.conversation.connection_state.Settings.{Settings}
use Rattle.session.specs.conversation.Logins.{keyspace_named}
use Rattle.session.specs.conversation.SessionContext.{SessionContext}

-- a column of texts: no keyspace or table has it
pub record DefinesText (wanted : List ℕ) (defined : R.Column) : Type 0 where
  pub schema_name : defined.schema ≡ []
  pub table_name : defined.table ≡ []
  pub name : defined.name ≡ wanted
  pub org_name : defined.org_name ≡ []
  pub kind : defined.kind ≡ VarBinary 255
  pub flags : defined.flags ≡ 128

-- a definition for each name, in order
abbrev pub AllTexts : List (List ℕ) → List R.Column → Type 0
AllTexts [] [] = Unit {0}
AllTexts [] (d ∷ defined) = ⊥
AllTexts (n ∷ names) [] = ⊥
AllTexts (n ∷ names) (d ∷ defined) = DefinesText n d × AllTexts names defined

-- what a session knows of itself; its client may be on any host
abbrev pub facts_of : Handshake → Settings → Facts
facts_of handshake set = record { keyspace = set.keyspace; connection = handshake.id; user = handshake.access.user ++ codes "@%"; autocommit = set.autocommit }

-- The outcome of an answer: rows under definitions of texts, or its refusal. If there is no memory for the rows, F1.
pub data TellsAnswer : ClientAnswer → Outcome → Type 0 where
  rows : {names : List (List ℕ)} {rows : List Row} {columns : List R.Column} → AllTexts names columns
      → TellsAnswer (a.Rows names rows) (Rows (record { columns = columns; rows = rows }))
  untold : {names : List (List ℕ)} {rows : List Row} → TellsAnswer (a.Rows names rows) (Refused r.OutOfMemory)
  refused : {why : Refusal} → TellsAnswer (a.Refused why) (Refused why)

-- ---- statements that need no table

-- What a statement gives that the session answers by itself, and what holds for commands then. Settings hold anyway; autocommit may be what it
-- is set to, and may be turned off, which leaves an open transaction open.
pub data TellsClient (schema : VSchema) (handshake : Handshake) (set : Settings) : ClientStatement → Outcome → Settings → Type 0 where
  holds : TellsClient schema handshake set (Set None) (Count 0) set
  stays : {on : Bool} → set.autocommit ≡ on → TellsClient schema handshake set (Set (Some on)) (Count 0) set
  turned_off : TellsClient schema handshake set (Set (Some false)) (Count 0) (record set { autocommit = false })
  not_supported : TellsClient schema handshake set NotSupported (Refused r.NotSupported) set
  used : {name : List ℕ} {ordinal : ℕ} → keyspace_named schema.keyspaces name ≡ Some ordinal
      → TellsClient schema handshake set (Use name) (Count 0) (record set { keyspace = Some ordinal })
  not_used : {name : List ℕ} → keyspace_named schema.keyspaces name ≡ None → TellsClient schema handshake set (Use name) (Refused r.UnknownKeyspace) set
  told : {statement : ClientStatement} {answer : ClientAnswer} {outcome : Outcome} → IsClientAnswer schema (facts_of handshake set) statement answer
      → TellsAnswer answer outcome → TellsClient schema handshake set statement outcome set
  no_memory : {statement : ClientStatement} → has_client_answer statement ≡ true → TellsClient schema handshake set statement (Refused r.OutOfMemory) set

-- ---- texts over the tables

-- a statement that opens a transaction, if autocommit is off and none is open
abbrev pub opens_one : Statement → Bool
opens_one (Select q) = true
opens_one (Insert w) = true
opens_one (Update w) = true
opens_one (Delete w) = true
opens_one _ = false

-- the text is such a statement
abbrev pub OpensOne : List ℕ → Type 0
OpensOne text = (statement : Statement) × Reads text statement × (opens_one statement ≡ true)

-- autocommit is off, and no transaction is open
abbrev pub NeedsOne : {S : Type 0} → SessionContext S → Settings → S → Type 0
NeedsOne context set s = (set.autocommit ≡ false) × (context.is_open s ≡ false)

-- a text is refused that isn't SQL over tables, or none that is run
abbrev pub is_not_run : Outcome → Bool
is_not_run (Refused r.SyntaxError) = true
is_not_run (Refused r.NotSupported) = true
is_not_run _ = false

-- a column under the name that a client gave it
abbrev pub named_column : Option (Option (List ℕ)) → R.Column → R.Column
named_column None column = column
named_column (Some None) column = column
named_column (Some (Some name)) column = record column { name = name }

-- columns under such names, in order; those after these keep theirs
abbrev pub named_columns : List (Option (List ℕ)) → List R.Column → List R.Column
named_columns [] columns = columns
named_columns (n ∷ names) [] = []
named_columns (n ∷ names) (c ∷ columns) = named_column (Some n) c ∷ named_columns names columns

abbrev pub named_outcome : List (Option (List ℕ)) → Outcome → Outcome
named_outcome names (Rows shown) = Rows (record shown { columns = named_columns names shown.columns })
named_outcome names (Count n) = Count n
named_outcome names (Refused why) = Refused why

module _ {S : Type 0} (context : SessionContext S) (May : S → List ℕ → Outcome → S → Type 0) (set : Settings) where
  -- What a statement gives that asks something of the server. START TRANSACTION with what each transaction here has is BEGIN. Autocommit that is
  -- turned on commits an open transaction as COMMIT does; if that is refused it stays off.
  pub data AnswersClient (s : S) : ClientStatement → Outcome → Settings → S → Type 0 where
    begun : {outcome : Outcome} {now : S} → May s (codes "BEGIN") outcome now → AnswersClient s Begin outcome set now
    turned_on : set.autocommit ≡ false → context.is_open s ≡ false
        → AnswersClient s (Set (Some true)) (Count 0) (record set { autocommit = true }) s
    committed : {now : S} → set.autocommit ≡ false → context.is_open s ≡ true → May s (codes "COMMIT") (Count 0) now
        → AnswersClient s (Set (Some true)) (Count 0) (record set { autocommit = true }) now
    not_committed : {why : Refusal} {now : S} → set.autocommit ≡ false → context.is_open s ≡ true → May s (codes "COMMIT") (Refused why) now
        → AnswersClient s (Set (Some true)) (Refused why) set now
    by_itself : {statement : ClientStatement} {outcome : Outcome} {then : Settings} → TellsClient context.schema context.handshake set statement outcome then
        → AnswersClient s statement outcome then s

  -- What a text gives that is run over the tables, and what the session has then seen. With autocommit off one that opens a transaction gives,
  -- if none is open, what it gives after BEGIN, or BEGIN's refusal. It may be that there is no memory to read whether it opens one.
  pub data RunsText (s : S) (text : List ℕ) : Outcome → S → Type 0 where
    alone : {outcome : Outcome} {now : S} → (NeedsOne context set s → OpensOne text → ⊥) → May s text outcome now → RunsText s text outcome now
    after_begin : {outcome : Outcome} {mid now : S} → NeedsOne context set s → OpensOne text → May s (codes "BEGIN") (Count 0) mid → May mid text outcome now
        → RunsText s text outcome now
    not_begun : {why : Refusal} {now : S} → NeedsOne context set s → OpensOne text → May s (codes "BEGIN") (Refused why) now
        → RunsText s text (Refused why) now
    not_read : NeedsOne context set s → RunsText s text (Refused r.OutOfMemory) s

  -- What a text gives, what holds for commands then, and what the session has then seen. A text that isn't run and asks something of the
  -- server is answered that. A SET of what the server can't be set to is refused, also if it has a tree. One that isn't run and asks nothing gives what
  -- its other words do, under the names that it gives columns. If there is no memory to read what it asks or says, that is told.
  pub data GivesText (s : S) (text : List ℕ) : Outcome → Settings → S → Type 0 where
    run : {outcome : Outcome} {now : S} → RunsText s text outcome now → (is_not_run outcome ≡ true → (statement : ClientStatement) → Asks text statement → ⊥)
        → (IsSet text → Asks text NotSupported → ⊥) → (is_not_run outcome ≡ true → (whole : List ℕ) (names : List (Option (List ℕ))) → IsSaidAs context.schema text whole names → ⊥)
        → GivesText s text outcome set now
    asked : {outcome reply : Outcome} {then : Settings} {mid now : S} (statement : ClientStatement) → RunsText s text outcome mid → is_not_run outcome ≡ true
        → Asks text statement → AnswersClient mid statement reply then now → GivesText s text reply then now
    said : {outcome refused : Outcome} {mid now : S} (whole : List ℕ) (names : List (Option (List ℕ))) → RunsText s text refused mid
        → is_not_run refused ≡ true → ((statement : ClientStatement) → Asks text statement → ⊥) → IsSaidAs context.schema text whole names → RunsText mid whole outcome now
        → GivesText s text (named_outcome names outcome) set now
    not_held : IsSet text → Asks text NotSupported → GivesText s text (Refused r.NotSupported) set s
    not_looked : GivesText s text (Refused r.OutOfMemory) set s
    unread : {outcome : Outcome} {now : S} → RunsText s text outcome now → is_not_run outcome ≡ true → GivesText s text (Refused r.OutOfMemory) set now
