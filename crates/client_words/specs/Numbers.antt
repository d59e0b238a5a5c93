-- Numbers in quotes. A text that is compared with a number, or stored as one, is converted: 'Type Conversion in Expression Evaluation' of MySQL's
-- reference manual. Here it is one if plain decimals stand between its quotes, and its column holds numbers.
use Rattle.std.specs.Prelude.{ℕ, Bool, true, false, not, ◌&&◌, ◌||◌, ◌+◌, ◌-◌, ◌==◌, List, [], ◌∷◌, ◌++◌, drop, map, bytes_eq, length, nat_eq, nat_lt, slice_range, Option, Some, None, if◌then◌else◌}
use Rattle.std.specs.List.{list_any, list_all, find}
use Rattle.sql_lexer.specs.Lexemes.{is_digit}
use Rattle.vschema.specs.Checks.{is_text_type}
use Rattle.vschema.specs.Column as v
use Rattle.vschema.specs.ColumnType.{ColumnType}
use Rattle.vschema.specs.declared.schema.Table.{Table}
use Rattle.vschema.specs.declared.schema.VSchema.{VSchema}
use Rattle.client_statements.specs.tokens.Keywords.{same_in_any_case}
use Rattle.client_statements.specs.declared.tokens.token.Keyword.TheVariants as k
use Rattle.client_statements.specs.declared.tokens.token.Sign.TheVariants.{Equal, LeftParenthesis, Minus}
use Rattle.client_statements.specs.declared.tokens.token.Token.{Token}
use Rattle.client_statements.specs.declared.tokens.token.TokenKind.{TokenKind}
use Rattle.client_statements.specs.declared.tokens.token.TokenKind.TheVariants.{Number, Text, Sign}
use Rattle.client_statements.specs.tokens.Pieces.{Lexeme, bare, operator, mark, lexeme_of, lexemes_of}
use Rattle.client_words.specs.Spelling.{Lexemes}
use Rattle.client_words.specs.Forms.{name_of}
use Rattle.client_words.specs.Marks.{is_comma, is_close}
use Rattle.client_words.specs.declared.places.Place.{Place}
use Rattle.client_words.specs.declared.places.Place.TheVariants.{Other, Column, Value, In, InList, Between}

-- ---- what is a number

-- one or more digits
abbrev pub are_digits : List ℕ → Bool
are_digits bytes = not (nat_eq (length bytes) 0) && list_all is_digit bytes

unfoldable pub is_text : TokenKind → Bool
is_text Text = true
is_text _ = false

-- the token of the number from one position up to another
abbrev pub number_token : ℕ → ℕ → Token
number_token start end = record { kind = Number; start = start; end = end }

abbrev pub minus_token : ℕ → ℕ → Token
minus_token start end = record { kind = Sign Minus; start = start; end = end }

-- the number that bytes from one position up to another are, or else this token
unfoldable pub number_in : List ℕ → Token → ℕ → ℕ → List Token
number_in [] t start end = t ∷ []
number_in (b ∷ bytes) t start end =
    if are_digits (b ∷ bytes) then number_token start end ∷ []
    else if (b == 0x2D) && are_digits bytes then minus_token start (start + 1) ∷ number_token (start + 1) end ∷ []
    else t ∷ []

-- the number between a text's quotes, or the text itself
unfoldable pub number_of : List ℕ → Token → List Token
number_of whole t =
    if is_text t.kind && nat_lt t.start (t.end - 2) then number_in (slice_range whole (t.start + 1) (t.end - 1)) t (t.start + 1) (t.end - 1)
    else t ∷ []

-- ---- the columns

-- the first two tables that a text names: a statement has no more
pub record Known : Type 0 where
  pub first : Option Table
  pub second : Option Table

-- a table stands right after these words
unfoldable pub leads_table : Lexeme → Bool
leads_table (bare (Some k.From) w) = true
leads_table (bare (Some k.Join) w) = true
leads_table (bare (Some k.Into) w) = true
leads_table (bare (Some k.Update) w) = true
leads_table _ = false

-- the tokens from the first table on
unfoldable pub table_on : Lexemes → Lexemes
table_on [] = []
table_on (t ∷ rest) = if leads_table t then rest else table_on rest

abbrev pub is_named : List ℕ → Table → Bool
is_named name t = bytes_eq t.name name

abbrev pub table_named : VSchema → Option (List ℕ) → Option Table
table_named schema None = None
table_named schema (Some name) = find (is_named name) schema.tables

abbrev pub first_name : Lexemes → Option (List ℕ)
first_name [] = None
first_name (t ∷ rest) = name_of t

unfoldable pub known_in : VSchema → Lexemes → Known
known_in schema ts = record { first = table_named schema (first_name (table_on ts)); second = table_named schema (first_name (table_on (table_on ts))) }

-- a type of texts, or of numbers
abbrev pub is_kind : Bool → ColumnType → Bool
is_kind true kind = is_text_type kind
is_kind false kind = not (is_text_type kind)

abbrev pub is_column : Bool → List ℕ → v.Column → Bool
is_column texts name c = bytes_eq c.name name && is_kind texts c.kind

-- whether a table has a column of that name, of texts or of numbers
abbrev pub has_column : Bool → Option Table → List ℕ → Bool
has_column texts None name = false
has_column texts (Some t) name = list_any (is_column texts name) t.columns

-- the columns of that name hold numbers
abbrev pub are_numbers : Known → Option (List ℕ) → Bool
are_numbers x None = false
are_numbers x (Some name) =
    (has_column false x.first name || has_column false x.second name) && not (has_column true x.first name || has_column true x.second name)

-- whether a column has the name, in any case
abbrev pub is_called : List ℕ → v.Column → Bool
is_called name c = same_in_any_case c.name name

abbrev pub names_column : Option Table → List ℕ → Bool
names_column None name = false
names_column (Some t) name = list_any (is_called name) t.columns

abbrev pub names_known : Known → Option (List ℕ) → Bool
names_known x None = false
names_known x (Some name) = names_column x.first name || names_column x.second name

-- ---- where a number is meant

-- after a column of numbers, an operator of it, IN, its parenthesis, and BETWEEN
abbrev pub at_word : Known → Lexeme → Place
at_word x t = if are_numbers x (name_of t) then Column else Other

unfoldable pub after_column : Known → Lexeme → Place
after_column x (mark Equal) = Value
after_column x (operator o) = Value
after_column x (bare (Some k.Not) w) = Column
after_column x (bare (Some k.In) w) = In
after_column x (bare (Some k.Between) w) = Between
after_column x t = at_word x t

unfoldable pub after_in : Known → Lexeme → Place
after_in x (mark LeftParenthesis) = InList
after_in x t = at_word x t

unfoldable pub after_between : Lexeme → Place
after_between (bare (Some k.And) w) = Value
after_between t = Between

abbrev pub next : Known → Place → Lexeme → Place
next x Column t = after_column x t
next x In t = after_in x t
next x InList t = if is_close t then Other else InList
next x Between t = after_between t
next x Value t = at_word x t
next x Other t = at_word x t

-- a number is meant here
abbrev pub means_number : Place → Bool
means_number Value = true
means_number InList = true
means_number Between = true
means_number _ = false

abbrev pub number_if : Bool → List ℕ → Token → List Token
number_if true whole t = number_of whole t
number_if false whole t = t ∷ []

-- the tokens of conditions and assignments, with the numbers that are meant
unfoldable pub compared : List ℕ → Known → Place → List Token → List Token
compared whole x place [] = []
compared whole x place (t ∷ ts) = number_if (means_number place) whole t ++ compared whole x (next x place (lexeme_of whole t)) ts

-- ---- the rows of INSERT

-- which columns hold numbers, of a list up to its parenthesis
unfoldable pub kinds_in : Known → Lexemes → List Bool
kinds_in x [] = []
kinds_in x (t ∷ rest) =
    if is_close t then []
    else if is_comma t then kinds_in x rest
    else are_numbers x (name_of t) ∷ kinds_in x rest

abbrev pub all_kinds : Option Table → List Bool
all_kinds None = []
all_kinds (Some t) = map (λ c. not (is_text_type c.kind)) t.columns

-- of INSERT INTO table (column,..) VALUES, and of INSERT INTO table VALUES
unfoldable pub insert_kinds : Known → Lexemes → Option (List Bool)
insert_kinds x (bare (Some k.Insert) w ∷ bare (Some k.Into) v ∷ t ∷ mark LeftParenthesis ∷ rest) = Some (kinds_in x rest)
insert_kinds x (bare (Some k.Insert) w ∷ bare (Some k.Into) v ∷ t ∷ bare (Some k.Values) u ∷ rest) = Some (all_kinds x.first)
insert_kinds x (bare (Some k.Insert) w ∷ bare (Some k.Into) v ∷ t ∷ bare (Some k.Value) u ∷ rest) = Some (all_kinds x.first)
insert_kinds x _ = None

abbrev pub first_kind : List Bool → Bool
first_kind [] = false
first_kind (b ∷ bs) = b

unfoldable pub is_open : Lexeme → Bool
is_open (mark LeftParenthesis) = true
is_open _ = false

-- the kinds of the columns from the next value on
abbrev pub next_kinds : List Bool → List Bool → Lexeme → List Bool
next_kinds all now t = if is_open t then all else if is_comma t then drop 1 now else now

-- the tokens of rows, with the numbers that are meant
unfoldable pub stored : List ℕ → List Bool → List Bool → List Token → List Token
stored whole all now [] = []
stored whole all now (t ∷ ts) = number_if (first_kind now) whole t ++ stored whole all (next_kinds all now (lexeme_of whole t)) ts

-- ---- the text

abbrev pub by_kinds : List ℕ → Known → Option (List Bool) → List Token → List Token
by_kinds whole x None ts = compared whole x Other ts
by_kinds whole x (Some kinds) ts = stored whole kinds [] ts

-- the tokens of a text, with the numbers that are meant
unfoldable pub with_numbers : VSchema → List ℕ → List Token → List Token
with_numbers schema whole ts =
    by_kinds whole (known_in schema (lexemes_of whole ts)) (insert_kinds (known_in schema (lexemes_of whole ts)) (lexemes_of whole ts)) ts
