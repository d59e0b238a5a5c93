-- Aliases of a query's columns and tables: the query without them, and what its columns are called. By 'SELECT Statement', 'JOIN Clause' and
-- 'Problems with Column Aliases' of MySQL's reference manual.
use Rattle.std.specs.Prelude.{ℕ, Bool, true, false, not, ◌&&◌, ◌||◌, List, [], ◌∷◌, ◌++◌, Option, Some, None, is_some, unwrap_or, if◌then◌else◌}
use Rattle.sql_lexer.specs.inner.Results.{◌>>=◌}
use Rattle.vschema.specs.declared.schema.VSchema.{VSchema}
use Rattle.client_statements.specs.tokens.Keywords.{same_in_any_case}
use Rattle.client_statements.specs.declared.tokens.token.Keyword.TheVariants as k
use Rattle.client_statements.specs.tokens.Pieces.{Lexeme, bare, named, quoted, mark}
use Rattle.client_words.specs.Marks.{is_from, is_as, is_comma, is_close, is_dot, is_order, is_group}
use Rattle.client_words.specs.Reserved.{alias_of}
use Rattle.client_words.specs.Spelling.{Lexemes}
use Rattle.client_words.specs.Distinct.{ends_filter}
use Rattle.client_words.specs.Forms.{name_of, is_table}
use Rattle.client_words.specs.Numbers.{Known, known_in, names_known}

-- the names of columns, in order: none where the client gives none
abbrev pub Names : Type 0
Names = List (Option (List ℕ))

-- what the alias of a column says: it may be a text too
unfoldable pub column_alias_of : Lexeme → Option (List ℕ)
column_alias_of (quoted w) = Some w
column_alias_of t = alias_of t

-- ---- the select list

-- an item of a select list ends before these
unfoldable pub ends_item : Lexemes → Bool
ends_item [] = false
ends_item (t ∷ rest) = is_comma t || is_from t

-- an alias may follow: AS, or the last token of an item
unfoldable pub leads_alias : Lexeme → Bool
leads_alias t = is_as t || is_close t || is_some (alias_of t)

-- after the first token the second is an item's alias
unfoldable pub is_aliased : Lexeme → Lexeme → Lexemes → Bool
is_aliased x t rest = leads_alias x && is_some (column_alias_of t) && ends_item rest

-- what is left of the token before an alias
abbrev pub before_alias : Lexeme → Lexemes
before_alias t = if is_as t then [] else t ∷ []

-- the select list at the front, up to FROM, without aliases
unfoldable pub list_of : Lexemes → Lexemes
list_of [] = []
list_of (x ∷ []) = if is_from x then [] else x ∷ []
list_of (x ∷ t ∷ rest) =
    if is_from x then []
    else if is_aliased x t rest then before_alias x ++ list_of rest
    else x ∷ list_of (t ∷ rest)

-- the names of its columns: this for the first one, unless it is named yet
unfoldable pub names_from : Option (List ℕ) → Lexemes → Names
names_from name [] = name ∷ []
names_from name (x ∷ []) = if is_from x then name ∷ [] else if is_comma x then name ∷ None ∷ [] else name ∷ []
names_from name (x ∷ t ∷ rest) =
    if is_from x then name ∷ []
    else if is_comma x then name ∷ names_from None (t ∷ rest)
    else if is_aliased x t rest then names_from (column_alias_of t) rest
    else names_from name (t ∷ rest)

-- the tokens from FROM on
unfoldable pub from_on : Lexemes → Lexemes
from_on [] = []
from_on (t ∷ rest) = if is_from t then t ∷ rest else from_on rest

-- ---- the tables

-- [AS] alias: what it says, and the tokens after it
unfoldable pub alias_at : Lexemes → Option (List ℕ) × Lexemes
alias_at [] = (None, [])
alias_at (t ∷ []) = if is_some (alias_of t) then (alias_of t, []) else (None, t ∷ [])
alias_at (t ∷ u ∷ rest) =
    if is_as t && is_some (alias_of u) then (alias_of u, rest)
    else if is_some (alias_of t) then (alias_of t, u ∷ rest)
    else (None, t ∷ u ∷ rest)

-- A table of a query: its token, and the name that stands before its columns, which is its alias, if it has one.
abbrev pub Source : Type 0
Source = Lexeme × Option (List ℕ)

unfoldable pub source : Lexeme → Option (List ℕ) → Source
source t (Some name) = (t, Some name)
source t None = (t, name_of t)

-- The tables of a query, one or two: what is left of FROM and of its join, and the tokens after them.
pub record Tables : Type 0 where
  pub kept : Lexemes
  pub first : Source
  pub second : Option Source
  pub rest : Lexemes

abbrev pub Joined : Type 0
Joined = Lexemes × (Source × Lexemes)

-- what is left of a join, its table, and the tokens after it
abbrev pub joined : Lexeme → Lexeme → Lexemes → Joined
joined join t rest = (join ∷ t ∷ [], (source t (alias_at rest).0, (alias_at rest).1))

-- [INNER] JOIN table [AS] alias
unfoldable pub join_at : Lexemes → Option Joined
join_at (bare (Some k.Inner) v ∷ bare (Some k.Join) w ∷ t ∷ rest) = Some (joined (bare (Some k.Join) w) t rest)
join_at (bare (Some k.Join) w ∷ t ∷ rest) = Some (joined (bare (Some k.Join) w) t rest)
join_at _ = None

-- the first table with the second, if a join follows; two of one name are none
unfoldable pub with_join : Lexemes → Source → Lexemes → Option Tables
with_join from first ts = elim (join_at ts) [
  | None ↦ Some (record { kept = from; first = first; second = None; rest = ts })
  | Some x ↦ if is_table first.1 x.1.0.1 then None else Some (record { kept = from ++ x.0; first = first; second = Some x.1.0; rest = x.1.1 })
]

-- FROM table [AS] alias [join]
unfoldable pub tables_at : Lexemes → Option Tables
tables_at (bare (Some k.From) w ∷ t ∷ rest) = with_join (bare (Some k.From) w ∷ t ∷ []) (source t (alias_at rest).0) (alias_at rest).1
tables_at _ = None

abbrev pub is_source : Option Source → Option (List ℕ) → Bool
is_source None name = false
is_source (Some s) name = is_table s.1 name

abbrev pub source_table : Option Source → Lexeme → Lexeme
source_table None t = t
source_table (Some s) t = s.0

abbrev pub leads_dot : Lexemes → Bool
leads_dot [] = false
leads_dot (t ∷ rest) = is_dot t

-- whether a table stands before columns under this name
unfoldable pub is_exposed : Tables → Lexeme → Bool
is_exposed x t = is_table x.first.1 (name_of t) || is_source x.second (name_of t)

-- the table that does
unfoldable pub table_for : Tables → Lexeme → Lexeme
table_for x t = if is_table x.first.1 (name_of t) then x.first.0 else source_table x.second t

-- a token isn't before a dot, or a table stands there under this name
abbrev pub stands : Tables → Lexeme → Lexemes → Bool
stands x t rest = not (leads_dot rest) || is_exposed x t

-- each name before a dot is one under which a table stands: under an alias, its own isn't
unfoldable pub all_exposed : Tables → Lexemes → Bool
all_exposed x [] = true
all_exposed x (t ∷ rest) = stands x t rest && all_exposed x rest

abbrev pub renamed_one : Tables → Lexeme → Lexemes → Lexeme
renamed_one x t rest = if leads_dot rest then table_for x t else t

-- with the table itself before each dot
unfoldable pub renamed : Tables → Lexemes → Lexemes
renamed x [] = []
renamed x (t ∷ rest) = renamed_one x t rest ∷ renamed x rest

-- ---- ORDER BY

-- the last token of an item
unfoldable pub is_last : Lexemes → Bool
is_last [] = true
is_last (t ∷ rest) = is_comma t

-- a token of an item that the word says: the item's name does, or it is a column of that name
unfoldable pub is_chosen : List ℕ → Option (List ℕ) → Lexeme → Lexemes → Bool
is_chosen word (Some name) t rest = same_in_any_case word name
is_chosen word None t rest = elim (alias_of t) [ None ↦ false | Some w ↦ same_in_any_case word w && is_last rest ]

abbrev pub chosen_one : List ℕ → Option (List ℕ) → Lexeme → Lexemes → Lexemes
chosen_one word name t rest = if is_chosen word name t rest then t ∷ [] else []

-- the items of a list that the word says: none, or one, or several, which are no key
unfoldable pub chosen : List ℕ → Names → Lexemes → Lexemes
chosen word [] ts = []
chosen word (n ∷ names) [] = []
chosen word (n ∷ names) (t ∷ rest) =
    if is_comma t then chosen word names rest
    else chosen_one word n t rest ++ chosen word (n ∷ names) rest

abbrev pub or_itself : Lexeme → Lexemes → Lexemes
or_itself t [] = t ∷ []
or_itself t (u ∷ us) = u ∷ us

-- what a token of ORDER BY says: an item's columns, if it is a word that says one
unfoldable pub key : Names → Lexemes → Lexeme → Lexemes
key names list t = elim (alias_of t) [ None ↦ t ∷ [] | Some w ↦ or_itself t (chosen w names list) ]

-- beside a dot stands no alias
abbrev pub first_key : Names → Lexemes → Bool → Lexeme → Lexemes → Lexemes
first_key names list after_dot t rest = if after_dot || leads_dot rest then t ∷ [] else key names list t

-- the keys of ORDER BY with items in place of their aliases
unfoldable pub keys : Names → Lexemes → Bool → Lexemes → Lexemes
keys names list after_dot [] = []
keys names list after_dot (t ∷ rest) = first_key names list after_dot t rest ++ keys names list (is_dot t) rest

-- with items in place of the aliases after ORDER
unfoldable pub ordered : Names → Lexemes → Lexemes → Lexemes
ordered names list [] = []
ordered names list (t ∷ rest) = if is_order t then t ∷ keys names list false rest else t ∷ ordered names list rest

-- ---- GROUP BY

-- what a token of GROUP BY says: a column of the tables, or else an item's columns
abbrev pub group_key : Known → Names → Lexemes → Bool → Lexeme → Lexemes → Lexemes
group_key known names list after_dot t rest = if names_known known (name_of t) then t ∷ [] else first_key names list after_dot t rest

abbrev pub group_one : Known → Names → Lexemes → Bool → Bool → Lexeme → Lexemes → Lexemes
group_one known names list true after_dot t rest = group_key known names list after_dot t rest
group_one known names list false after_dot t rest = t ∷ []

-- from GROUP on, up to ORDER or LIMIT
abbrev pub stays_group : Bool → Lexeme → Bool
stays_group in_group t = is_group t || (in_group && not (ends_filter t))

-- with items in place of the aliases after GROUP
unfoldable pub grouped : Known → Names → Lexemes → Bool → Bool → Lexemes → Lexemes
grouped known names list in_group after_dot [] = []
grouped known names list in_group after_dot (t ∷ rest) =
    group_one known names list in_group after_dot t rest ++ grouped known names list (stays_group in_group t) (is_dot t) rest

-- ---- the query

-- the query of these tables, whose select list is this and has these names
abbrev pub query : Known → Lexeme → Tables → Names → Lexemes → Lexemes
query known select x names list =
    select ∷ renamed x list ++ x.kept ++ ordered names (renamed x list) (grouped known names (renamed x list) false false (renamed x x.rest))

abbrev pub is_sound : Tables → Lexemes → Bool
is_sound x list = all_exposed x list && all_exposed x x.rest

abbrev pub of_tables : Known → Lexeme → Tables → Lexemes → Option (Lexemes × Names)
of_tables known select x ts = if is_sound x (list_of ts) then Some (query known select x (names_from None ts) (list_of ts), names_from None ts) else None

unfoldable pub aliased : Known → Lexemes → Option (Lexemes × Names)
aliased known (bare (Some k.Select) w ∷ ts) = tables_at (from_on ts) >>= λ x. of_tables known (bare (Some k.Select) w) x ts
aliased known _ = None

-- A query without aliases, and the names of its columns. What isn't one of one or two tables is left as it is, and so are aliases that are wrong in
-- MySQL too: then they have no tree.
unfoldable pub unaliased : VSchema → Lexemes → Lexemes × Names
unaliased schema ts = unwrap_or (aliased (known_in schema ts) ts) (ts, [])
