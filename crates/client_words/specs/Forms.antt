-- Forms of MySQL that the grammar says in other words: for each what it reads at the front, what is written in its place, and the tokens after it. By
-- 'SQL Statements' and 'Comparison Functions and Operators' of MySQL's reference manual.
use Rattle.std.specs.Prelude.{ℕ, Bool, true, false, ◌&&◌, ◌||◌, List, [], ◌∷◌, ◌++◌, codes, bytes_eq, Option, Some, None, is_some, if◌then◌else◌}
use Rattle.std.specs.Option.{option_or}
use Rattle.sql_lexer.specs.inner.Results.{◌>>=◌}
use Rattle.client_statements.specs.tokens.Keywords.{same_in_any_case}
use Rattle.client_statements.specs.declared.tokens.token.Keyword.TheVariants as k
use Rattle.client_statements.specs.declared.tokens.token.Sign.TheVariants.{Comma, Dot, Semicolon, Star, LeftParenthesis, RightParenthesis, Minus}
use Rattle.client_statements.specs.tokens.Pieces.{Lexeme, bare, named, digits, quoted, operator, mark}
use Rattle.client_words.specs.Spelling.{Lexemes, Written, spelled}
use Rattle.client_words.specs.InsertSet.{insert_set_at}
use Rattle.client_words.specs.Marks.{is_set, without_as}
use Rattle.client_words.specs.Reserved.{alias_of}

-- what a name says
abbrev pub name_of : Lexeme → Option (List ℕ)
name_of (bare key w) = Some w
name_of (named w) = Some w
name_of _ = None

abbrev pub leads_set : Lexemes → Bool
leads_set [] = false
leads_set (t ∷ rest) = is_set t

-- the alias of the one table before SET, or its own name
abbrev pub alias_before_set : Lexemes → Option (List ℕ)
alias_before_set [] = None
alias_before_set (u ∷ rest) = if leads_set rest then alias_of u else None

unfoldable pub before_set : Lexemes → Option (List ℕ)
before_set [] = None
before_set (t ∷ rest) = if leads_set rest then name_of t else alias_before_set (without_as rest)

unfoldable pub before_where : Lexemes → Option (List ℕ)
before_where (t ∷ bare (Some k.Where) w ∷ rest) = name_of t
before_where _ = None

-- the one table of an UPDATE or a DELETE: its name may stand before a column and a dot, which the grammar has in a SELECT alone
unfoldable pub table_of : Lexemes → Option (List ℕ)
table_of (bare (Some k.Update) w ∷ rest) = before_set rest
table_of (bare (Some k.Delete) w ∷ bare (Some k.From) v ∷ rest) = before_where rest
table_of _ = None

abbrev pub is_table : Option (List ℕ) → Option (List ℕ) → Bool
is_table (Some table) (Some name) = bytes_eq name table
is_table _ _ = false

-- without the table and its dot at the front
unfoldable pub unqualified : Option (List ℕ) → Lexemes → Lexemes
unqualified table (t ∷ mark Dot ∷ rest) = if is_table table (name_of t) then rest else t ∷ mark Dot ∷ rest
unqualified table ts = ts

-- the table and its dot, which aren't written
unfoldable pub qualifier_at : Option (List ℕ) → Lexemes → Written
qualifier_at table (t ∷ mark Dot ∷ rest) = if is_table table (name_of t) then Some ([], rest) else None
qualifier_at table _ = None

-- SELECT t.* FROM t: the columns of the one table
abbrev pub is_one_table : Lexemes → Bool
is_one_table [] = true
is_one_table (mark Semicolon ∷ rest) = true
is_one_table (bare (Some k.Where) w ∷ rest) = true
is_one_table (bare (Some k.Group) w ∷ rest) = true
is_one_table (bare (Some k.Order) w ∷ rest) = true
is_one_table (bare (Some k.Limit) w ∷ rest) = true
is_one_table _ = false

unfoldable pub star_at : Lexemes → Written
star_at (bare (Some k.Select) u ∷ t ∷ mark Dot ∷ mark Star ∷ bare (Some k.From) v ∷ table ∷ rest) =
    if is_table (name_of table) (name_of t) && is_one_table rest then Some (codes " SELECT * FROM" ++ spelled (table ∷ []), rest) else None
star_at _ = None

-- the column after its table and a dot
unfoldable pub after_dot : Lexeme → Lexemes → Written
after_dot table (bare key w ∷ rest) = Some (spelled (table ∷ mark Dot ∷ bare key w ∷ []), rest)
after_dot table (named w ∷ rest) = Some (spelled (table ∷ mark Dot ∷ named w ∷ []), rest)
after_dot table _ = None

-- UPDATE table [AS] alias SET, without the alias
abbrev pub update_text : Lexeme → List ℕ
update_text table = codes " UPDATE" ++ spelled (table ∷ []) ++ codes " SET"

abbrev pub if_aliased : Lexeme → Lexeme → Lexemes → Written
if_aliased table u rest = if is_some (alias_of table) && is_some (alias_of u) then Some (update_text table, rest) else None

unfoldable pub aliased_set_at : Lexeme → Lexemes → Written
aliased_set_at table (u ∷ bare (Some k.Set) w ∷ rest) = if_aliased table u rest
aliased_set_at table _ = None

unfoldable pub update_at : Lexemes → Written
update_at (bare (Some k.Update) w ∷ t ∷ rest) = aliased_set_at t (without_as rest)
update_at _ = None

-- operand = name | name . name | number | - number | text
unfoldable pub operand_at : Lexemes → Written
operand_at (bare key w ∷ mark Dot ∷ rest) = after_dot (bare key w) rest
operand_at (named w ∷ mark Dot ∷ rest) = after_dot (named w) rest
operand_at (mark Minus ∷ digits n ∷ rest) = Some (spelled (mark Minus ∷ digits n ∷ []), rest)
operand_at (bare key w ∷ rest) = Some (spelled (bare key w ∷ []), rest)
operand_at (named w ∷ rest) = Some (spelled (named w ∷ []), rest)
operand_at (digits n ∷ rest) = Some (spelled (digits n ∷ []), rest)
operand_at (quoted w ∷ rest) = Some (spelled (quoted w ∷ []), rest)
operand_at _ = None

-- BETWEEN, or NOT BETWEEN
unfoldable pub between_word_at : Lexemes → Option (Bool × Lexemes)
between_word_at (bare (Some k.Between) w ∷ rest) = Some (false, rest)
between_word_at (bare (Some k.Not) v ∷ bare (Some k.Between) w ∷ rest) = Some (true, rest)
between_word_at _ = None

unfoldable pub and_at : Lexemes → Option Lexemes
and_at (bare (Some k.And) w ∷ rest) = Some rest
and_at _ = None

-- both bounds belong to what is between them
abbrev pub within_text : List ℕ → List ℕ → List ℕ → List ℕ
within_text x low high = codes " (" ++ x ++ codes " >=" ++ low ++ codes " AND" ++ x ++ codes " <=" ++ high ++ codes " )"

abbrev pub between_text : Bool → List ℕ → List ℕ → List ℕ → List ℕ
between_text true x low high = codes " NOT" ++ within_text x low high
between_text false x low high = within_text x low high

-- operand [NOT] BETWEEN low AND high
unfoldable pub between_at : Option (List ℕ) → Lexemes → Written
between_at table ts = do
  x ← operand_at (unqualified table ts)
  negated ← between_word_at x.1
  low ← operand_at (unqualified table negated.1)
  rest ← and_at low.1
  high ← operand_at (unqualified table rest)
  Some (between_text negated.0 x.0 low.0 high.0, high.1)

-- LIMIT offset, count
unfoldable pub limit_at : Lexemes → Written
limit_at (bare (Some k.Limit) w ∷ digits m ∷ mark Comma ∷ digits n ∷ rest) = Some (codes " LIMIT " ++ n ++ codes " OFFSET " ++ m, rest)
limit_at _ = None

abbrev pub if_operator : List ℕ → List ℕ → Written → Written
if_operator o wanted written = if bytes_eq o wanted then written else None

-- <=> NULL, and a `!` before a parenthesis; before anything else it binds closer than NOT
unfoldable pub operator_at : Lexemes → Written
operator_at (operator o ∷ bare (Some k.Null) w ∷ rest) = if_operator o (codes "<=>") (Some (codes " IS NULL", rest))
operator_at (operator o ∷ mark LeftParenthesis ∷ rest) = if_operator o (codes "!") (Some (codes " NOT (", rest))
operator_at _ = None

-- BEGIN WORK, COMMIT WORK, ROLLBACK WORK
unfoldable pub work_at : Lexemes → Written
work_at (bare (Some k.Begin) w ∷ bare (Some k.Work) v ∷ rest) = Some (codes " BEGIN", rest)
work_at (bare (Some k.Commit) w ∷ bare (Some k.Work) v ∷ rest) = Some (codes " COMMIT", rest)
work_at (bare (Some k.Rollback) w ∷ bare (Some k.Work) v ∷ rest) = Some (codes " ROLLBACK", rest)
work_at _ = None

-- INSERT without INTO; VALUE for VALUES, after the columns
unfoldable pub insert_at : Lexemes → Written
insert_at (bare (Some k.Insert) w ∷ bare (Some k.Into) v ∷ rest) = None
insert_at (bare (Some k.Insert) w ∷ rest) = Some (codes " INSERT INTO", rest)
insert_at (mark RightParenthesis ∷ bare (Some k.Value) w ∷ mark LeftParenthesis ∷ rest) = Some (codes " ) VALUES (", rest)
insert_at _ = None

-- COUNT of a number counts rows, as COUNT(*) does
unfoldable pub count_at : Lexemes → Written
count_at (bare (Some k.Count) w ∷ mark LeftParenthesis ∷ digits n ∷ mark RightParenthesis ∷ rest) = Some (codes " COUNT ( * )", rest)
count_at _ = None

-- a text after the character set that it is of: its bytes
abbrev pub is_introducer : List ℕ → Bool
is_introducer w = same_in_any_case w (codes "_binary") || same_in_any_case w (codes "_utf8mb4")

unfoldable pub introduced_at : Lexemes → Written
introduced_at (bare key w ∷ quoted v ∷ rest) = if is_introducer w then Some (spelled (quoted v ∷ []), rest) else None
introduced_at _ = None

-- the one of these forms that is at the front
unfoldable pub form_at : Option (List ℕ) → Lexemes → Written
form_at table ts =
    option_or (between_at table ts) (option_or (qualifier_at table ts) (option_or (star_at ts)
    (option_or (limit_at ts) (option_or (operator_at ts) (option_or (work_at ts) (option_or (update_at ts) (option_or (insert_set_at ts)
    (option_or (insert_at ts) (option_or (count_at ts) (introduced_at ts))))))))))
