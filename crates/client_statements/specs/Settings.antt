-- Which settings a client may make, each with the values that hold anyway.
use Rattle.std.specs.Prelude.{ℕ, Bool, true, not, ◌==◌, List, [], ◌∷◌, take, codes, Option, Some, None, if◌then◌else◌}
use Rattle.std.specs.List.{list_all, list_any}
use Rattle.sql_lexer.specs.inner.Scanning.{run}
use Rattle.client_statements.specs.tokens.Keywords.{same_in_any_case}
use Rattle.client_statements.specs.declared.rule.Rule.{Rule}
use Rattle.client_statements.specs.declared.rule.Rule.TheVariants.{Switch, Modes, CharacterSet, AnyValue, ItsValue}
use Rattle.client_statements.specs.declared.variable.Variable.{Variable}
use Rattle.client_statements.specs.Variables.{variable_of}

-- Any value of these holds: nothing is told of a session that a client could track, since the server doesn't announce that.
abbrev pub free_settings : List (List ℕ)
free_settings =
    codes "session_track_gtids" ∷ codes "session_track_schema" ∷ codes "session_track_state_change" ∷ codes "session_track_system_variables"
    ∷ codes "session_track_transaction_info" ∷ []

-- each of these is set to a character set or to a collation
abbrev pub set_settings : List (List ℕ)
set_settings =
    codes "character_set_client" ∷ codes "character_set_connection" ∷ codes "character_set_results" ∷ codes "character_set_server"
    ∷ codes "collation_connection" ∷ codes "collation_server" ∷ []

-- Texts pass as the bytes that they are. That holds for a character set in which the byte 5C is always a backslash. In the first five it may
-- be the second byte of a character, which a client doesn't escape; the others are no set of a client in MySQL either.
abbrev pub refused_sets : List (List ℕ)
refused_sets =
    codes "big5" ∷ codes "cp932" ∷ codes "gb18030" ∷ codes "gbk" ∷ codes "sjis"
    ∷ codes "ucs2" ∷ codes "utf16" ∷ codes "utf16le" ∷ codes "utf32" ∷ []

-- the character set that a name tells: a collation is named by its set, then `_`
abbrev pub set_of : List ℕ → List ℕ
set_of name = take (run (λ b. not (b == 0x5F)) name) name

-- a character set, or a collation of one, by which texts are read rightly
abbrev pub is_held_set : List ℕ → Bool
is_held_set name = not (list_any (same_in_any_case (set_of name)) refused_sets)

-- Modes whose rule holds here, whether a client sets them or not: what doesn't fit a column is refused, no value is changed on its way into
-- a column, columns outside GROUP BY stand in aggregates alone, and there are no dates, divisions and engines.
abbrev pub held_modes : List (List ℕ)
held_modes =
    codes "STRICT_TRANS_TABLES" ∷ codes "STRICT_ALL_TABLES" ∷ codes "TRADITIONAL" ∷ codes "ONLY_FULL_GROUP_BY" ∷ codes "NO_ZERO_IN_DATE"
    ∷ codes "NO_ZERO_DATE" ∷ codes "ERROR_FOR_DIVISION_BY_ZERO" ∷ codes "NO_ENGINE_SUBSTITUTION" ∷ codes "NO_AUTO_VALUE_ON_ZERO"
    ∷ codes "NO_AUTO_CREATE_USER" ∷ []

-- no mode, or one whose rule holds
abbrev pub is_held_mode : List ℕ → Bool
is_held_mode [] = true
is_held_mode (b ∷ bytes) = list_any (same_in_any_case (b ∷ bytes)) held_modes

abbrev pub onto_first : ℕ → List (List ℕ) → List (List ℕ)
onto_first b [] = (b ∷ []) ∷ []
onto_first b (xs ∷ xss) = (b ∷ xs) ∷ xss

-- the parts of a text that commas separate
abbrev pub parts : List ℕ → List (List ℕ)
parts [] = [] ∷ []
parts (b ∷ bytes) = if b == 0x2C then [] ∷ parts bytes else onto_first b (parts bytes)

-- a text of modes, each of which holds
abbrev pub are_held_modes : List ℕ → Bool
are_held_modes text = list_all is_held_mode (parts text)

abbrev pub rule_of_variable : Option Variable → Option Rule
rule_of_variable None = None
rule_of_variable (Some v) = Some (ItsValue v)

-- How the values of a setting that hold are told. A variable that the server has holds the value that it has.
unfoldable pub rule_of : List ℕ → Option Rule
rule_of name =
    if same_in_any_case name (codes "autocommit") then Some Switch
    else if same_in_any_case name (codes "sql_mode") then Some Modes
    else if list_any (same_in_any_case name) set_settings then Some CharacterSet
    else if list_any (same_in_any_case name) free_settings then Some AnyValue
    else rule_of_variable (variable_of name)
