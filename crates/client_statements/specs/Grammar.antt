-- What texts ask of a server, from their tokens: for each rule of the grammar what it reads at the front, and the tokens after that.
use Rattle.std.specs.Prelude.{ℕ, zero, suc, ◌-◌, ◌&&◌, ◌||◌, Bool, true, false, List, [], ◌∷◌, ◌++◌, length, take, drop, slice_get, slice_range, codes, bytes_eq, nat_le, Option, Some, None, unwrap_or, if◌then◌else◌}
use Rattle.std.specs.Option.{option_or}
use Rattle.sql_lexer.specs.Lexemes.{max_word}
use Rattle.sql_lexer.specs.inner.Results.{◌>>=◌}
use Rattle.client_statements.specs.declared.tokens.token.Token.{Token}
use Rattle.client_statements.specs.declared.tokens.token.TokenKind.{TokenKind}
use Rattle.client_statements.specs.declared.tokens.token.TokenKind.TheVariants.{Sign}
use Rattle.client_statements.specs.declared.tokens.token.Keyword.{Keyword}
use Rattle.client_statements.specs.declared.tokens.token.Keyword.TheVariants as k
use Rattle.client_statements.specs.declared.tokens.token.Sign.TheVariants.{Equal, Assign, Comma, Dot, LeftParenthesis, RightParenthesis, Semicolon}
use Rattle.client_statements.specs.tokens.Keywords.{same_in_any_case}
use Rattle.client_statements.specs.tokens.Pieces.{Lexeme, bare, named, system, digits, quoted, mark, lexemes_of}
use Rattle.client_statements.specs.declared.rule.Rule.{Rule}
use Rattle.client_statements.specs.declared.rule.Rule.TheVariants.{Switch, Modes, CharacterSet, AnyValue, ItsValue}
use Rattle.client_statements.specs.declared.statement.NamedValue.{NamedValue}
use Rattle.client_statements.specs.declared.statement.NamedValue.TheVariants as asked
use Rattle.client_statements.specs.declared.statement.ClientStatement.{ClientStatement}
use Rattle.client_statements.specs.declared.statement.ClientStatement.TheVariants.{Set, Begin, NotSupported, Select, Use, ShowDatabases, ShowTables, ShowColumns, ShowVariables, ShowWarnings}
use Rattle.client_statements.specs.declared.statement.SelectItem.{SelectItem}
use Rattle.client_statements.specs.declared.statement.TableName.{TableName}
use Rattle.client_statements.specs.declared.variable.Variable.{Variable}
use Rattle.client_statements.specs.Settings.{are_held_modes, is_held_set, rule_of}
use Rattle.client_statements.specs.Variables.{variable_value, shown_variable, variable_of}

abbrev pub Lexemes : Type 0
Lexemes = List Lexeme

abbrev pub ReadOf : Type 0 → Type 0
ReadOf A = Option (A × Lexemes)

-- ---- names, texts and signs

-- name = word | `name`
unfoldable pub identifier_at : Lexemes → ReadOf (List ℕ)
identifier_at (bare k bytes ∷ rest) = Some (bytes, rest)
identifier_at (named bytes ∷ rest) = Some (bytes, rest)
identifier_at _ = None

-- text = '..' | ".."
unfoldable pub string_at : Lexemes → ReadOf (List ℕ)
string_at (quoted bytes ∷ rest) = Some (bytes, rest)
string_at _ = None

-- any = name | number | text
unfoldable pub any_at : Lexemes → Option Lexemes
any_at (bare k bytes ∷ rest) = Some rest
any_at (named bytes ∷ rest) = Some rest
any_at (digits bytes ∷ rest) = Some rest
any_at (quoted bytes ∷ rest) = Some rest
any_at _ = None

-- a name that isn't longer than SQL has it
abbrev pub short_name : List ℕ → Lexemes → ReadOf (List ℕ)
short_name bytes rest = if nat_le (length bytes) max_word then Some (bytes, rest) else None

-- set = name | text: the name of a character set or of a collation
unfoldable pub set_name_at : Lexemes → ReadOf (List ℕ)
set_name_at (bare k bytes ∷ rest) = short_name bytes rest
set_name_at (named bytes ∷ rest) = short_name bytes rest
set_name_at (quoted bytes ∷ rest) = Some (bytes, rest)
set_name_at _ = None

-- = or :=
unfoldable pub equals_at : Lexemes → Option Lexemes
equals_at (mark Equal ∷ rest) = Some rest
equals_at (mark Assign ∷ rest) = Some rest
equals_at _ = None

unfoldable pub comma_at : Lexemes → Option Lexemes
comma_at (mark Comma ∷ rest) = Some rest
comma_at _ = None

unfoldable pub open_at : Lexemes → Option Lexemes
open_at (mark LeftParenthesis ∷ rest) = Some rest
open_at _ = None

unfoldable pub close_at : Lexemes → Option Lexemes
close_at (mark RightParenthesis ∷ rest) = Some rest
close_at _ = None

-- [LIKE text]
unfoldable pub like_at : Lexemes → ReadOf (Option (List ℕ))
like_at (bare (Some k.Like) w ∷ rest) = string_at rest >>= λ x. Some (Some x.0, x.1)
like_at ts = Some (None, ts)

-- ---- settings

-- a value of autocommit
unfoldable pub switch_of : Lexeme → Option Bool
switch_of (bare (Some k.On) w) = Some true
switch_of (bare (Some k.Off) w) = Some false
switch_of (digits bytes) = if bytes_eq bytes (codes "1") then Some true else if bytes_eq bytes (codes "0") then Some false else None
switch_of _ = None

unfoldable pub switch_at : Lexemes → ReadOf (Option Bool)
switch_at [] = None
switch_at (t ∷ rest) = switch_of t >>= λ on. Some (Some on, rest)

-- a text of modes that hold
unfoldable pub modes_text_at : Lexemes → Option Lexemes
modes_text_at ts = string_at ts >>= λ x. if are_held_modes x.0 then Some x.1 else None

abbrev pub is_session : List ℕ → Bool
is_session name = same_in_any_case name (codes "session") || same_in_any_case name (codes "local")

-- the variable after its scope, if what comes before a dot is one
unfoldable pub scoped_at : List ℕ → Lexemes → ReadOf (List ℕ)
scoped_at first (mark Dot ∷ rest) = if is_session first then identifier_at rest else None
scoped_at first ts = Some (first, ts)

-- @@name | @@SESSION.name | @@LOCAL.name
unfoldable pub system_at : Lexemes → ReadOf (List ℕ)
system_at (system name ∷ rest) = scoped_at name rest
system_at _ = None

-- @@sql_mode, in whose place the modes that hold stand
unfoldable pub mode_variable_at : Lexemes → Option Lexemes
mode_variable_at ts = system_at ts >>= λ x. if same_in_any_case x.0 (codes "sql_mode") then Some x.1 else None

-- , text ) after what it is added to
unfoldable pub added_at : Lexemes → Option Lexemes
added_at ts = comma_at ts >>= λ rest. modes_text_at rest >>= close_at

-- CONCAT(@@sql_mode, text), or that in place of the variable
unfoldable pub inner_concat_at : Lexemes → Option Lexemes
inner_concat_at (bare (Some k.Concat) w ∷ rest) = open_at rest >>= λ inside. mode_variable_at inside >>= added_at
inner_concat_at ts = mode_variable_at ts

unfoldable pub modes_at : Lexemes → Option Lexemes
modes_at (bare (Some k.Concat) w ∷ rest) = open_at rest >>= λ inside. inner_concat_at inside >>= added_at
modes_at ts = modes_text_at ts

-- what a word, a number or a text says
unfoldable pub said_at : Lexemes → ReadOf (List ℕ)
said_at (bare k bytes ∷ rest) = Some (bytes, rest)
said_at (digits bytes ∷ rest) = Some (bytes, rest)
said_at (quoted bytes ∷ rest) = Some (bytes, rest)
said_at _ = None

-- the value that a variable has, as SELECT or as SHOW tells it
unfoldable pub its_value_at : Variable → Lexemes → Option Lexemes
its_value_at v ts =
    said_at ts >>= λ x. if same_in_any_case x.0 (variable_value v true) || same_in_any_case x.0 (shown_variable v true) then Some x.1 else None

-- a character set that holds
unfoldable pub held_set_at : Lexemes → Option Lexemes
held_set_at ts = set_name_at ts >>= λ x. if is_held_set x.0 then Some x.1 else None

-- The value of a setting that holds, and what autocommit is set to. The server can't be set to any other value.
unfoldable pub setting_value_at : Rule → Lexemes → ReadOf (Option Bool)
setting_value_at Switch ts = switch_at ts
setting_value_at Modes ts = modes_at ts >>= λ rest. Some (None, rest)
setting_value_at CharacterSet ts = held_set_at ts >>= λ rest. Some (None, rest)
setting_value_at AnyValue ts = any_at ts >>= λ rest. Some (None, rest)
setting_value_at (ItsValue v) ts = its_value_at v ts >>= λ rest. Some (None, rest)

-- [SESSION | LOCAL] name, or the variable with @@
unfoldable pub target_at : Lexemes → ReadOf (List ℕ)
target_at (bare (Some k.Session) w ∷ rest) = identifier_at rest
target_at (bare (Some k.Local) w ∷ rest) = identifier_at rest
target_at (system name ∷ rest) = system_at (system name ∷ rest)
target_at ts = identifier_at ts

-- target = value
unfoldable pub setting_at : Lexemes → ReadOf (Option Bool)
setting_at ts = do
  target ← target_at ts
  rule ← rule_of target.0
  rest ← equals_at target.1
  setting_value_at rule rest

-- the later one of two settings of autocommit, if there are any
abbrev pub later : Option Bool → Option Bool → Option Bool
later before now = option_or now before

-- setting,.. up to the end, after settings of which the last one of autocommit was this; n is at least their count
unfoldable pub settings_at : ℕ → Option Bool → Lexemes → Option (Option Bool)
settings_at zero before ts = None
settings_at (suc n) before ts = elim (setting_at ts) [
  | None ↦ None
  | Some x ↦ elim x.1 [
    | [] ↦ Some (later before x.0)
    | t ∷ us ↦ elim (comma_at x.1) [ None ↦ None | Some rest ↦ settings_at n (later before x.0) rest ]
  ]
]

-- [COLLATE set], and whether it holds
unfoldable pub collation_at : Lexemes → ReadOf Bool
collation_at (bare (Some k.Collate) w ∷ rest) = set_name_at rest >>= λ x. Some (is_held_set x.0, x.1)
collation_at ts = Some (true, ts)

abbrev pub names_statement : Bool → ClientStatement
names_statement true = Set None
names_statement false = NotSupported

-- set [COLLATE set], after SET NAMES: a set or a collation that doesn't hold can't be set
unfoldable pub names_at : Lexemes → ReadOf ClientStatement
names_at ts = do
  set ← set_name_at ts
  collation ← collation_at set.1
  Some (names_statement (is_held_set set.0 && collation.0), collation.1)

-- READ UNCOMMITTED | READ COMMITTED | REPEATABLE READ: a transaction is on one shard and at one moment, which is more than each. SERIALIZABLE isn't
-- among them, since a query of several shards outside a transaction is at a moment of each.
unfoldable pub level_at : Lexemes → Option Lexemes
level_at (bare (Some k.Read) w ∷ bare (Some k.Uncommitted) v ∷ rest) = Some rest
level_at (bare (Some k.Read) w ∷ bare (Some k.Committed) v ∷ rest) = Some rest
level_at (bare (Some k.Repeatable) w ∷ bare (Some k.Read) v ∷ rest) = Some rest
level_at _ = None

-- ISOLATION LEVEL level | READ WRITE, after TRANSACTION
unfoldable pub characteristic_at : Lexemes → Option Lexemes
characteristic_at (bare (Some k.Isolation) w ∷ bare (Some k.Level) v ∷ rest) = level_at rest
characteristic_at (bare (Some k.Read) w ∷ bare (Some k.Write) v ∷ rest) = Some rest
characteristic_at _ = None

-- nothing more
unfoldable pub end_at : Option Bool → Lexemes → Option (Option Bool)
end_at on [] = Some on
end_at on _ = None

-- SET set, after CHARACTER
unfoldable pub character_set_at : Lexemes → Option Lexemes
character_set_at (bare (Some k.Set) w ∷ rest) = held_set_at rest
character_set_at _ = None

-- TRANSACTION characteristic, after SESSION; or else settings, of which that is the first one's scope
unfoldable pub session_at : Lexemes → Lexemes → Option (Option Bool)
session_at ts (bare (Some k.Transaction) w ∷ rest) = characteristic_at rest >>= end_at None
session_at ts _ = settings_at (length ts) None ts

-- what SET sets autocommit to, if all that it sets holds; after its word, and not NAMES
unfoldable pub set_at : Lexemes → Option (Option Bool)
set_at (bare (Some k.Charset) w ∷ rest) = held_set_at rest >>= end_at None
set_at (bare (Some k.Character) w ∷ rest) = character_set_at rest >>= end_at None
set_at (bare (Some k.Transaction) w ∷ rest) = characteristic_at rest >>= end_at None
set_at (bare (Some k.Session) w ∷ rest) = session_at (bare (Some k.Session) w ∷ rest) rest
set_at ts = settings_at (length ts) None ts

-- a SET that isn't of settings that hold asks for what the server can't do
abbrev pub set_statement : Option (Option Bool) → ClientStatement
set_statement (Some on) = Set on
set_statement None = NotSupported

-- ---- transactions

-- READ WRITE | READ ONLY | WITH CONSISTENT SNAPSHOT, and whether a transaction here is so: it has no snapshot of all shards as it begins
unfoldable pub mode_at : Lexemes → ReadOf Bool
mode_at (bare (Some k.Read) w ∷ bare (Some k.Write) v ∷ rest) = Some (true, rest)
mode_at (bare (Some k.Read) w ∷ bare (Some k.Only) v ∷ rest) = Some (false, rest)
mode_at (bare (Some k.With) w ∷ bare (Some k.Consistent) v ∷ bare (Some k.Snapshot) u ∷ rest) = Some (false, rest)
mode_at _ = None

abbrev pub begin_statement : Bool → ClientStatement
begin_statement true = Begin
begin_statement false = NotSupported

-- [, mode]
unfoldable pub second_mode_at : Bool → Lexemes → ReadOf ClientStatement
second_mode_at can (mark Comma ∷ rest) = mode_at rest >>= λ x. Some (begin_statement (if can then x.0 else false), x.1)
second_mode_at can ts = Some (begin_statement can, ts)

-- [mode [, mode]], after START TRANSACTION: with nothing more it is here since SQL has no comments
unfoldable pub begin_at : Lexemes → ReadOf ClientStatement
begin_at [] = Some (Begin, [])
begin_at (t ∷ ts) = mode_at (t ∷ ts) >>= λ x. second_mode_at x.0 x.1

-- ---- SHOW and DESCRIBE

-- [FROM name | IN name]
unfoldable pub from_at : Lexemes → ReadOf (Option (List ℕ))
from_at (bare (Some k.From) w ∷ rest) = identifier_at rest >>= λ x. Some (Some x.0, x.1)
from_at (bare (Some k.In) w ∷ rest) = identifier_at rest >>= λ x. Some (Some x.0, x.1)
from_at ts = Some (None, ts)

-- what comes after a name: the table, if the name is its keyspace's
unfoldable pub qualified_at : List ℕ → Lexemes → ReadOf TableName
qualified_at first (mark Dot ∷ rest) = identifier_at rest >>= λ x. Some (record { keyspace = Some first; table = x.0 }, x.1)
qualified_at first ts = Some (record { keyspace = None; table = first }, ts)

-- name | name . name
unfoldable pub table_name_at : Lexemes → ReadOf TableName
table_name_at ts = identifier_at ts >>= λ x. qualified_at x.0 x.1

-- what FROM told, or else what stood before it
abbrev pub or_before : Option (List ℕ) → Option (List ℕ) → Option (List ℕ)
or_before before None = before
or_before before (Some name) = Some name

-- table [FROM name] [LIKE text], after FROM
unfoldable pub columns_of_at : Bool → Lexemes → ReadOf ClientStatement
columns_of_at full ts = do
  table ← table_name_at ts
  keyspace ← from_at table.1
  like ← like_at keyspace.1
  Some (ShowColumns full (record { keyspace = or_before table.0.keyspace keyspace.0; table = table.0.table }) like.0, like.1)

unfoldable pub columns_at : Bool → Lexemes → ReadOf ClientStatement
columns_at full (bare (Some k.From) w ∷ rest) = columns_of_at full rest
columns_at full (bare (Some k.In) w ∷ rest) = columns_of_at full rest
columns_at full _ = None

unfoldable pub tables_at : Bool → Lexemes → ReadOf ClientStatement
tables_at full ts = do
  keyspace ← from_at ts
  like ← like_at keyspace.1
  Some (ShowTables full keyspace.0 like.0, like.1)

-- TABLES [FROM name] [LIKE text] | COLUMNS FROM table [FROM name] [LIKE text]
unfoldable pub listing_at : Bool → Lexemes → ReadOf ClientStatement
listing_at full (bare (Some k.Tables) w ∷ rest) = tables_at full rest
listing_at full (bare (Some k.Columns) w ∷ rest) = columns_at full rest
listing_at full (bare (Some k.Fields) w ∷ rest) = columns_at full rest
listing_at full _ = None

unfoldable pub databases_at : Lexemes → ReadOf ClientStatement
databases_at ts = like_at ts >>= λ x. Some (ShowDatabases x.0, x.1)

unfoldable pub variables_at : Lexemes → ReadOf ClientStatement
variables_at (bare (Some k.Variables) w ∷ rest) = like_at rest >>= λ x. Some (ShowVariables x.0, x.1)
variables_at _ = None

-- after SHOW
unfoldable pub show_at : Lexemes → ReadOf ClientStatement
show_at (bare (Some k.Databases) w ∷ rest) = databases_at rest
show_at (bare (Some k.Schemas) w ∷ rest) = databases_at rest
show_at (bare (Some k.Warnings) w ∷ rest) = Some (ShowWarnings, rest)
show_at (bare (Some k.Full) w ∷ rest) = listing_at true rest
show_at (bare (Some k.Session) w ∷ rest) = variables_at rest
show_at (bare (Some k.Local) w ∷ rest) = variables_at rest
show_at (bare (Some k.Global) w ∷ rest) = variables_at rest
show_at (bare (Some k.Variables) w ∷ rest) = variables_at (bare (Some k.Variables) w ∷ rest)
show_at ts = listing_at false ts

-- table, after DESCRIBE
unfoldable pub describe_at : Lexemes → ReadOf ClientStatement
describe_at ts = table_name_at ts >>= λ x. Some (ShowColumns false x.0 None, x.1)

unfoldable pub use_at : Lexemes → ReadOf ClientStatement
use_at ts = identifier_at ts >>= λ x. Some (Use x.0, x.1)

-- ---- SELECT

-- the variable of this name
unfoldable pub asked_variable : List ℕ → NamedValue
asked_variable name = elim (variable_of name) [ Some v ↦ asked.Variable v | None ↦ asked.Unknown name ]

abbrev pub is_scope : List ℕ → Bool
is_scope name = is_session name || same_in_any_case name (codes "global")

abbrev pub scoped_variable : List ℕ → List ℕ → Option (NamedValue × ℕ)
scoped_variable scope name = if is_scope scope then Some (asked_variable name, 3) else None

-- what a call without arguments asks for
unfoldable pub called : Option Keyword → Option NamedValue
called (Some k.Version) = Some asked.Version
called (Some k.Database) = Some asked.Database
called (Some k.Schema) = Some asked.Database
called (Some k.ConnectionId) = Some asked.ConnectionId
called (Some k.User) = Some asked.User
called (Some k.CurrentUser) = Some asked.User
called (Some k.SessionUser) = Some asked.User
called (Some k.SystemUser) = Some asked.User
called _ = None

-- @@name | @@SESSION.name | @@LOCAL.name | @@GLOBAL.name | VERSION() | DATABASE() | SCHEMA() | CONNECTION_ID() | USER() | CURRENT_USER()
-- | SESSION_USER() | SYSTEM_USER(), and how many tokens that is
unfoldable pub asked_at : Lexemes → Option (NamedValue × ℕ)
asked_at (system scope ∷ mark Dot ∷ bare k name ∷ rest) = scoped_variable scope name
asked_at (system name ∷ rest) = Some (asked_variable name, 1)
asked_at (bare k w ∷ mark LeftParenthesis ∷ mark RightParenthesis ∷ rest) = called k >>= λ x. Some (x, 3)
asked_at _ = None

-- a name or a text
unfoldable pub alias_of : Lexeme → Option (List ℕ)
alias_of (bare k bytes) = Some bytes
alias_of (named bytes) = Some bytes
alias_of (quoted bytes) = Some bytes
alias_of _ = None

-- [AS alias], and how many tokens that is
unfoldable pub alias_at : Lexemes → Option (Option (List ℕ) × ℕ)
alias_at (bare (Some k.As) w ∷ []) = None
alias_at (bare (Some k.As) w ∷ t ∷ rest) = alias_of t >>= λ x. Some (Some x, 2)
alias_at ts = Some (None, 0)

abbrev pub start_of : Option Token → ℕ
start_of None = 0
start_of (Some t) = t.start

abbrev pub token_end : Option Token → ℕ
token_end None = 0
token_end (Some t) = t.end

-- the text of the first tokens, so many, as it is
unfoldable pub text_of_first : List ℕ → List Token → ℕ → List ℕ
text_of_first whole tokens n = slice_range whole (start_of (slice_get tokens 0)) (token_end (slice_get tokens (n - 1)))

-- A value with its column's name, which is the alias or else the value's text, and the tokens after it.
unfoldable pub item_at : List ℕ → List Token → Option (SelectItem × List Token)
item_at whole tokens = do
  value ← asked_at (lexemes_of whole tokens)
  alias ← alias_at (lexemes_of whole (drop value.1 tokens))
  Some (record { asked = value.0; name = unwrap_or alias.0 (text_of_first whole tokens value.1) }, drop alias.1 (drop value.1 tokens))

-- [LIMIT 1]
unfoldable pub ends_select : Lexemes → Bool
ends_select [] = true
ends_select (bare (Some k.Limit) w ∷ digits n ∷ []) = bytes_eq n (codes "1")
ends_select _ = false

unfoldable pub begins_with_comma : Lexemes → Bool
begins_with_comma (mark Comma ∷ rest) = true
begins_with_comma _ = false

-- item,.. [LIMIT 1] up to the end, after these items; n is at least their count
unfoldable pub items_at : ℕ → List ℕ → List SelectItem → List Token → Option (List SelectItem)
items_at zero whole front tokens = None
items_at (suc n) whole front tokens = elim (item_at whole tokens) [
  | None ↦ None
  | Some x ↦ if ends_select (lexemes_of whole x.1) then Some (front ++ x.0 ∷ [])
      else if begins_with_comma (lexemes_of whole x.1) then items_at n whole (front ++ x.0 ∷ []) (drop 1 x.1)
      else None
]

-- ---- statements

-- what was read, if nothing comes after it
unfoldable pub finished : ReadOf ClientStatement → Option ClientStatement
finished None = None
finished (Some x) = elim x.1 [ [] ↦ Some x.0 | t ∷ ts ↦ None ]

abbrev pub selected : Option (List SelectItem) → Option ClientStatement
selected None = None
selected (Some items) = Some (Select items)

unfoldable pub statement_at : List ℕ → List Token → Lexemes → Option ClientStatement
statement_at whole tokens (bare (Some k.Select) w ∷ rest) = selected (items_at (length (drop 1 tokens)) whole [] (drop 1 tokens))
statement_at whole tokens (bare (Some k.Set) w ∷ bare (Some k.Names) v ∷ rest) = finished (names_at rest)
statement_at whole tokens (bare (Some k.Set) w ∷ rest) = Some (set_statement (set_at rest))
statement_at whole tokens (bare (Some k.Show) w ∷ rest) = finished (show_at rest)
statement_at whole tokens (bare (Some k.Use) w ∷ rest) = finished (use_at rest)
statement_at whole tokens (bare (Some k.Describe) w ∷ rest) = finished (describe_at rest)
statement_at whole tokens (bare (Some k.Desc) w ∷ rest) = finished (describe_at rest)
statement_at whole tokens (bare (Some k.Start) w ∷ bare (Some k.Transaction) v ∷ rest) = finished (begin_at rest)
statement_at whole tokens _ = None

abbrev pub is_semicolon : TokenKind → Bool
is_semicolon (Sign Semicolon) = true
is_semicolon _ = false

abbrev pub ends_in_semicolon : Option Token → Bool
ends_in_semicolon None = false
ends_in_semicolon (Some t) = is_semicolon t.kind

-- the tokens without a semicolon at their end
unfoldable pub without_semicolon : List Token → List Token
without_semicolon tokens = if ends_in_semicolon (slice_get tokens (length tokens - 1)) then take (length tokens - 1) tokens else tokens

-- what the tokens of a text ask of a server
unfoldable pub client_statement : List ℕ → List Token → Option ClientStatement
client_statement whole tokens = statement_at whole (without_semicolon tokens) (lexemes_of whole (without_semicolon tokens))
