-- Reading statements from left to right. No public clause cites this file: the code is shown to be as it says, and it to agree with the grammar.
use Rattle.std.specs.Prelude.{ℕ, zero, suc, ◌^◌, ◌&&◌, not, nat_lt, nat_le, Bool, true, false, List, [], ◌∷◌, ◌++◌, length, slice_range, Option, Some, None, is_some, pos, neg_ℤ, if◌then◌else◌}
use Rattle.vt_value.specs.declared.value.Value.{Value}
use Rattle.vt_value.specs.declared.value.Value.TheVariants.{Null, Int, Bytes}
use Rattle.vt_value.specs.declared.value.Comparison.{Comparison}
use Rattle.vt_value.specs.declared.value.Comparison.TheVariants.{Eq}
use Rattle.sql_lexer.specs.declared.token.Token.{Token}
use Rattle.sql_lexer.specs.declared.token.Keyword.TheVariants as k
use Rattle.sql_lexer.specs.declared.token.Sign.TheVariants.{LeftParenthesis, RightParenthesis, Star, Comma, Minus, Dot}
use Rattle.sql_lexer.specs.Endings.{is_end}
use Rattle.sql_lexer.specs.Lexemes.{Lexeme, keyword, identifier, number, text, sign, operator, said_by}
use Rattle.sql_lexer.specs.inner.Results.{◌>>=◌}
use Rattle.sql_tree.specs.declared.ColumnName.{ColumnName}
use Rattle.sql_tree.specs.declared.JoinOn.{JoinOn}
use Rattle.sql_tree.specs.declared.Operand.{Operand}
use Rattle.sql_tree.specs.declared.Operand.TheVariants.{Column, Literal}
use Rattle.sql_tree.specs.declared.Condition.{Condition, Compare, In, IsNull, Not, And, Or}
use Rattle.sql_tree.specs.declared.Item.{Item}
use Rattle.sql_tree.specs.declared.Item.TheVariants as shown
use Rattle.sql_tree.specs.declared.SelectList.{SelectList}
use Rattle.sql_tree.specs.declared.SelectList.TheVariants.{All, Items}
use Rattle.sql_tree.specs.declared.Key.{Key}
use Rattle.sql_tree.specs.declared.LimitClause.{LimitClause}
use Rattle.sql_tree.specs.declared.Assignment.{Assignment}
use Rattle.sql_tree.specs.declared.CharacterSet.{CharacterSet}
use Rattle.sql_tree.specs.declared.CharacterSet.TheVariants as charset
use Rattle.sql_tree.specs.declared.Select as S
use Rattle.sql_tree.specs.declared.Insert as I
use Rattle.sql_tree.specs.declared.Update as U
use Rattle.sql_tree.specs.declared.Delete as D
use Rattle.sql_tree.specs.declared.Statement.{Statement}
use Rattle.sql_tree.specs.declared.Statement.TheVariants.{Select, Insert, Update, Delete, Begin, Commit, Rollback, SetNames}
use Rattle.sql_tree.specs.Literals.{Name, literals_of}
use Rattle.sql_parser.specs.Qualifiers.{qualifies_outside_select}
use Rattle.sql_parser.specs.declared.last_clauses.LastClauses.{LastClauses}
use Rattle.sql_parser.specs.declared.reading.Kind.{Kind}
use Rattle.sql_parser.specs.declared.reading.Kind.TheVariants as kind
use Rattle.sql_parser.specs.Grammar.{Lexemes, Joined, ReadsNot, max_depth, max_literals, is_setting}

-- what is read at the front, and what comes after it
abbrev pub Read : Type 0 → Type 0
Read A = Option (A × Lexemes)

-- what a token of the text says
abbrev pub said : List ℕ → Token → Lexeme
said bytes t = said_by t.kind (slice_range bytes t.start t.end)

abbrev pub is_comma : Lexeme → Bool
is_comma (sign Comma) = true
is_comma _ = false

abbrev pub is_and : Lexeme → Bool
is_and (keyword k.And) = true
is_and _ = false

abbrev pub is_or : Lexeme → Bool
is_or (keyword k.Or) = true
is_or _ = false

-- what comes after a token, if that stands there
abbrev pub after_at : (Lexeme → Bool) → Lexemes → Option Lexemes
after_at sep [] = None
after_at sep (x ∷ ts) = if sep x then Some ts else None

-- A separator and an item, as often as they are there; n is at least the count of tokens
unfoldable pub follows_at : {A : Type 0} → (Lexeme → Bool) → (Lexemes → Read A) → ℕ → Lexemes → Read (List A)
follows_at sep item zero ts = Some ([], ts)
follows_at sep item (suc n) [] = Some ([], [])
follows_at sep item (suc n) (t ∷ ts) = if sep t then (item ts >>= λ x. follows_at sep item n x.1 >>= λ xs. Some (x.0 ∷ xs.0, xs.1)) else Some ([], t ∷ ts)

-- what was read before, and what is still read
abbrev pub with_front : {A : Type 0} → List A → Read (List A) → Read (List A)
with_front front read = read >>= λ xs. Some (front ++ xs.0, xs.1)

abbrev pub all_follow : {A : Type 0} → (Lexeme → Bool) → (Lexemes → Read A) → List A → Lexemes → Read (List A)
all_follow sep item front ts = with_front front (follows_at sep item (length ts) ts)

-- x,..
abbrev pub listed_at : {A : Type 0} → (Lexemes → Read A) → Lexemes → Read (List A)
listed_at item ts = item ts >>= λ x. all_follow is_comma item (x.0 ∷ []) x.1

abbrev pub identifier_of : Lexeme → Option Name
identifier_of (identifier bytes) = Some bytes
identifier_of _ = None

-- a number that 64 bits hold
abbrev pub fitting : ℕ → Option ℕ
fitting n = if nat_lt n (2 ^ 64) then Some n else None

abbrev pub natural_of : Lexeme → Option ℕ
natural_of (number n) = fitting n
natural_of _ = None

unfoldable pub name_at : Lexemes → Read Name
name_at [] = None
name_at (t ∷ rest) = identifier_of t >>= λ bytes. Some (bytes, rest)

abbrev pub is_dot : Lexeme → Bool
is_dot (sign Dot) = true
is_dot _ = false

abbrev pub qualified_by : Name → Read Name → Read ColumnName
qualified_by table read = read >>= λ name. Some (record { table = Some table; name = name.0 }, name.1)

-- a name, and after a dot the one that it qualifies
unfoldable pub after_name_at : Name → Lexemes → Read ColumnName
after_name_at bytes (sign Dot ∷ rest) = qualified_by bytes (name_at rest)
after_name_at bytes rest = Some (record { table = None; name = bytes }, rest)

unfoldable pub column_at : Lexemes → Read ColumnName
column_at ts = name_at ts >>= λ name. after_name_at name.0 name.1

unfoldable pub number_at : Lexemes → Read ℕ
number_at [] = None
number_at (t ∷ rest) = natural_of t >>= λ n. Some (n, rest)

-- ---- literals

unfoldable pub close_at : Lexemes → Option Lexemes
close_at (sign RightParenthesis ∷ rest) = Some rest
close_at _ = None

unfoldable pub open_at : Lexemes → Option Lexemes
open_at (sign LeftParenthesis ∷ rest) = Some rest
open_at _ = None

unfoldable pub natural_at : Lexemes → Read Value
natural_at ts = number_at ts >>= λ n. Some (Int (pos n.0), n.1)

-- after the minus
unfoldable pub negative_at : Lexemes → Read Value
negative_at ts = number_at ts >>= λ n. if nat_le n.0 (2 ^ 63) then Some (Int (neg_ℤ (pos n.0)), n.1) else None

unfoldable pub literal_at : Lexemes → Read Value
literal_at (keyword k.Null ∷ rest) = Some (Null, rest)
literal_at (sign Minus ∷ rest) = negative_at rest
literal_at (text bytes ∷ rest) = Some (Bytes bytes, rest)
literal_at ts = natural_at ts

unfoldable pub operand_at : Lexemes → Read (Operand ColumnName)
operand_at [] = None
operand_at (identifier bytes ∷ rest) = after_name_at bytes rest >>= λ column. Some (Column column.0, column.1)
operand_at ts = literal_at ts >>= λ v. Some (Literal v.0, v.1)

-- (x,..)
unfoldable pub bracketed_at : {A : Type 0} → (Lexemes → Read A) → Lexemes → Read (List A)
bracketed_at item ts = do
  inside ← open_at ts
  xs ← listed_at item inside
  rest ← close_at xs.1
  Some (xs.0, rest)

abbrev pub members_at : Lexemes → Read (List Value)
members_at = bracketed_at literal_at

-- ---- conditions

unfoldable pub in_at : Operand ColumnName → Lexemes → Read (Condition ColumnName)
in_at left (keyword k.In ∷ rest) = members_at rest >>= λ members. Some (In left members.0, members.1)
in_at left _ = None

unfoldable pub null_at : Operand ColumnName → Lexemes → Read (Condition ColumnName)
null_at left (keyword k.Null ∷ rest) = Some (IsNull left, rest)
null_at left _ = None

-- after an IS, with a NOT only if one may be there
unfoldable pub is_at : Bool → Operand ColumnName → Lexemes → Read (Condition ColumnName)
is_at true left (keyword k.Not ∷ rest) = null_at left rest >>= λ x. Some (Not x.0, x.1)
is_at may left ts = null_at left ts

-- what comes after an operand, with a NOT only if one may be there
unfoldable pub test_at : Bool → Operand ColumnName → Lexemes → Read (Condition ColumnName)
test_at may left (operator op ∷ rest) = operand_at rest >>= λ right. Some (Compare op left right.0, right.1)
test_at may left (keyword k.Is ∷ rest) = is_at may left rest
test_at true left (keyword k.Not ∷ rest) = in_at left rest >>= λ x. Some (Not x.0, x.1)
test_at may left ts = in_at left ts

unfoldable pub predicate_at : Bool → Lexemes → Read (Condition ColumnName)
predicate_at may ts = operand_at ts >>= λ x. test_at may x.0 x.1

unfoldable pub joined_at : (Lexeme → Bool) → (List (Condition ColumnName) → Condition ColumnName) → (Lexemes → Read (Condition ColumnName)) → Lexemes
    → Read (Condition ColumnName)
joined_at sep node item ts = do
  x ← item ts
  if is_some (after_at sep x.1) then (all_follow sep item (x.0 ∷ []) x.1 >>= λ xs. Some (node xs.0, xs.1)) else Some x

abbrev pub or_of : (Lexemes → Read (Condition ColumnName)) → Lexemes → Read (Condition ColumnName)
or_of negation = joined_at is_or Or (joined_at is_and And negation)

-- where a NOT or a parenthesis may stand, after which deeper reads
unfoldable pub negation_at : (Lexemes → Read (Condition ColumnName)) → Lexemes → Read (Condition ColumnName)
negation_at deeper (keyword k.Not ∷ rest) = deeper rest >>= λ x. Some (Not x.0, x.1)
negation_at deeper (sign LeftParenthesis ∷ rest) = or_of deeper rest >>= λ x. close_at x.1 >>= λ rest. Some (x.0, rest)
negation_at deeper ts = predicate_at true ts

unfoldable pub not_at : ℕ → Lexemes → Read (Condition ColumnName)
not_at zero = predicate_at false
not_at (suc depth) = negation_at (not_at depth)

abbrev pub and_at : ℕ → Lexemes → Read (Condition ColumnName)
and_at depth = joined_at is_and And (not_at depth)

abbrev pub or_at : ℕ → Lexemes → Read (Condition ColumnName)
or_at depth = or_of (not_at depth)

-- ---- the parts of statements

-- (column)
unfoldable pub argument_at : Lexemes → Read ColumnName
argument_at ts = do
  inside ← open_at ts
  column ← column_at inside
  rest ← close_at column.1
  Some (column.0, rest)

-- after COUNT
unfoldable pub count_at : Lexemes → Read (Item ColumnName)
count_at (sign LeftParenthesis ∷ sign Star ∷ sign RightParenthesis ∷ rest) = Some (shown.CountRows, rest)
count_at ts = argument_at ts >>= λ column. Some (shown.Count column.0, column.1)

unfoldable pub item_at : Lexemes → Read (Item ColumnName)
item_at (keyword k.Count ∷ rest) = count_at rest
item_at (keyword k.Sum ∷ rest) = argument_at rest >>= λ column. Some (shown.Sum column.0, column.1)
item_at (keyword k.Min ∷ rest) = argument_at rest >>= λ column. Some (shown.Min column.0, column.1)
item_at (keyword k.Max ∷ rest) = argument_at rest >>= λ column. Some (shown.Max column.0, column.1)
item_at ts = column_at ts >>= λ column. Some (shown.Column column.0, column.1)

unfoldable pub list_at : Lexemes → Read SelectList
list_at (sign Star ∷ rest) = Some (All, rest)
list_at ts = listed_at item_at ts >>= λ items. Some (Items items.0, items.1)

unfoldable pub from_at : Lexemes → Read Name
from_at (keyword k.From ∷ rest) = name_at rest
from_at _ = None

unfoldable pub equals_at : Lexemes → Option Lexemes
equals_at (operator Eq ∷ rest) = Some rest
equals_at _ = None

unfoldable pub on_at : Lexemes → Option Lexemes
on_at (keyword k.On ∷ rest) = Some rest
on_at _ = None

-- name ON column = column, after JOIN
unfoldable pub joined_on_at : Lexemes → Read JoinOn
joined_on_at ts = do
  table ← name_at ts
  rest ← on_at table.1
  left ← column_at rest
  trailing ← equals_at left.1
  right ← column_at trailing
  Some (record { table = table.0; left = left.0; right = right.0 }, right.1)

unfoldable pub join_at : Lexemes → Read (Option JoinOn)
join_at (keyword k.Join ∷ rest) = joined_on_at rest >>= λ x. Some (Some x.0, x.1)
join_at (keyword k.Inner ∷ keyword k.Join ∷ rest) = joined_on_at rest >>= λ x. Some (Some x.0, x.1)
join_at ts = Some (None, ts)

-- after WHERE
abbrev pub filter_at : Lexemes → Read (Option (Condition ColumnName))
filter_at ts = or_at max_depth ts >>= λ x. Some (Some x.0, x.1)

unfoldable pub where_at : Lexemes → Read (Option (Condition ColumnName))
where_at (keyword k.Where ∷ rest) = filter_at rest
where_at ts = Some (None, ts)

-- a condition that compares a column with a number, by what the three tokens say
abbrev pub compared_at : Lexeme → Comparison → Lexeme → Lexemes → Read (Option (Condition ColumnName))
compared_at column op value rest = do
  bytes ← identifier_of column
  n ← natural_of value
  Some (Some (Compare op (Column (record { table = None; name = bytes })) (Literal (Int (pos n)))), rest)

unfoldable pub group_at : Lexemes → Read (List ColumnName)
group_at (keyword k.Group ∷ keyword k.By ∷ rest) = listed_at column_at rest
group_at ts = Some ([], ts)

-- whether a key is descending
unfoldable pub direction_at : Lexemes → Bool × Lexemes
direction_at (keyword k.Asc ∷ rest) = (false, rest)
direction_at (keyword k.Desc ∷ rest) = (true, rest)
direction_at ts = (false, ts)

unfoldable pub sort_key_at : Lexemes → Read (Key ColumnName)
sort_key_at ts = column_at ts >>= λ column. Some (record { column = column.0; descending = (direction_at column.1).0 }, (direction_at column.1).1)

unfoldable pub order_at : Lexemes → Read (List (Key ColumnName))
order_at (keyword k.Order ∷ keyword k.By ∷ rest) = listed_at sort_key_at rest
order_at ts = Some ([], ts)

unfoldable pub offset_at : Lexemes → Read ℕ
offset_at (keyword k.Offset ∷ rest) = number_at rest
offset_at ts = Some (0, ts)

unfoldable pub limit_at : Lexemes → Read (Option LimitClause)
limit_at (keyword k.Limit ∷ rest) = do
  count ← number_at rest
  offset ← offset_at count.1
  Some (Some (record { count = count.0; offset = offset.0 }), offset.1)
limit_at ts = Some (None, ts)

-- [(name,..)]
unfoldable pub columns_at : Lexemes → Read (Option (List Name))
columns_at (sign LeftParenthesis ∷ rest) = bracketed_at name_at (sign LeftParenthesis ∷ rest) >>= λ names. Some (Some names.0, names.1)
columns_at ts = Some (None, ts)

unfoldable pub values_at : Lexemes → Option Lexemes
values_at (keyword k.Values ∷ rest) = Some rest
values_at _ = None

unfoldable pub set_at : Lexemes → Option Lexemes
set_at (keyword k.Set ∷ rest) = Some rest
set_at _ = None

unfoldable pub assignment_at : Lexemes → Read (Assignment Name)
assignment_at ts = do
  column ← name_at ts
  rest ← equals_at column.1
  value ← literal_at rest
  Some (record { column = column.0; value = value.0 }, value.1)

-- ---- statements, each after its first words

unfoldable pub select_at : Lexemes → Read S.Select
select_at ts = do
  list ← list_at ts
  table ← from_at list.1
  join ← join_at table.1
  filter ← where_at join.1
  group_by ← group_at filter.1
  order_by ← order_at group_by.1
  limit ← limit_at order_by.1
  Some (record { list = list.0; table = table.0; join = join.0; filter = filter.0; group_by = group_by.0; order_by = order_by.0; limit = limit.0 }, limit.1)

-- the clauses after a filter
abbrev pub last_clauses_at : Lexemes → Read LastClauses
last_clauses_at ts = do
  group_by ← group_at ts
  order_by ← order_at group_by.1
  limit ← limit_at order_by.1
  Some (record { group_by = group_by.0; order_by = order_by.0; limit = limit.0 }, limit.1)

unfoldable pub insert_at : Lexemes → Read I.Insert
insert_at ts = do
  table ← name_at ts
  columns ← columns_at table.1
  values ← values_at columns.1
  rows ← listed_at members_at values
  Some (record { table = table.0; columns = columns.0; rows = rows.0 }, rows.1)

unfoldable pub update_at : Lexemes → Read U.Update
update_at ts = do
  table ← name_at ts
  rest ← set_at table.1
  assignments ← listed_at assignment_at rest
  filter ← where_at assignments.1
  Some (record { table = table.0; assignments = assignments.0; filter = filter.0 }, filter.1)

unfoldable pub delete_at : Lexemes → Read D.Delete
delete_at ts = do
  table ← from_at ts
  filter ← where_at table.1
  Some (record { table = table.0; filter = filter.0 }, filter.1)

unfoldable pub charset_at : Lexemes → Read CharacterSet
charset_at (identifier bytes ∷ rest) = Some (charset.Identifier bytes, rest)
charset_at (text bytes ∷ rest) = Some (charset.Text bytes, rest)
charset_at _ = None

-- a setting, = and what it is set to, after SET
unfoldable pub setting_at : Lexemes → Read Statement
setting_at ts = do
  name ← name_at ts
  rest ← if is_setting name.0 then equals_at name.1 else None
  set ← charset_at rest
  Some (SetNames set.0, set.1)

-- a statement of sessions and transactions
unfoldable pub control_at : Lexemes → Read Statement
control_at (keyword k.Begin ∷ rest) = Some (Begin, rest)
control_at (keyword k.Start ∷ keyword k.Transaction ∷ rest) = Some (Begin, rest)
control_at (keyword k.Commit ∷ rest) = Some (Commit, rest)
control_at (keyword k.Rollback ∷ rest) = Some (Rollback, rest)
control_at (keyword k.Set ∷ keyword k.Names ∷ rest) = charset_at rest >>= λ set. Some (SetNames set.0, set.1)
control_at (keyword k.Set ∷ rest) = setting_at rest
control_at _ = None

unfoldable pub statement_at : Lexemes → Read Statement
statement_at (keyword k.Select ∷ rest) = select_at rest >>= λ x. Some (Select x.0, x.1)
statement_at (keyword k.Insert ∷ keyword k.Into ∷ rest) = insert_at rest >>= λ x. Some (Insert x.0, x.1)
statement_at (keyword k.Update ∷ rest) = update_at rest >>= λ x. Some (Update x.0, x.1)
statement_at (keyword k.Delete ∷ rest) = delete_at rest >>= λ x. Some (Delete x.0, x.1)
statement_at ts = control_at ts

abbrev pub is_text : Statement × Lexemes → Bool
is_text x = is_end x.1 && nat_le (literals_of x.0) max_literals && not (qualifies_outside_select x.0)

-- a statement, if the text ends after it
abbrev pub ended : Read Statement → Option Statement
ended read = read >>= λ x. if is_text x then Some x.0 else None

unfoldable pub text_at : Lexemes → Option Statement
text_at ts = ended (statement_at ts)

-- the rest of a text after its first words
abbrev pub select_text_at : Lexemes → Option Statement
select_text_at ts = ended (select_at ts >>= λ x. Some (Select x.0, x.1))

abbrev pub insert_text_at : Lexemes → Option Statement
insert_text_at ts = ended (insert_at ts >>= λ x. Some (Insert x.0, x.1))

abbrev pub update_text_at : Lexemes → Option Statement
update_text_at ts = ended (update_at ts >>= λ x. Some (Update x.0, x.1))

abbrev pub delete_text_at : Lexemes → Option Statement
delete_text_at ts = ended (delete_at ts >>= λ x. Some (Delete x.0, x.1))

abbrev pub control_text_at : Lexemes → Option Statement
control_text_at ts = ended (control_at ts)

-- the rest of a text, by what its first words say that it is
abbrev pub text_of_kind : Kind → Lexemes → Option Statement
text_of_kind kind.Select ts = select_text_at ts
text_of_kind kind.Insert ts = insert_text_at ts
text_of_kind kind.Update ts = update_text_at ts
text_of_kind kind.Delete ts = delete_text_at ts
text_of_kind kind.Control ts = control_text_at ts

-- not | not AND not AND .., as the grammar has it
abbrev pub ReadsAnd : ℕ → Lexemes → Condition ColumnName → Type 0
ReadsAnd depth = Joined (keyword k.And) And (ReadsNot depth)
