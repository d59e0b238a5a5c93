-- The printed form of a statement: keywords in upper case, one blank between words, after commas and around operators, and no more parentheses than
-- the tree needs.
use Rattle.std.specs.Prelude.{ℕ, ◌==◌, List, [], ◌∷◌, ◌++◌, map, flat_map, codes, Option, Some, None, if◌then◌else◌}
use Rattle.std.specs.Fmt.{decimal, signed_decimal}
use Rattle.sql_lexer.specs.Value.{Value}
use Rattle.sql_lexer.specs.Value.TheVariants.{Null, Int, Bytes}
use Rattle.sql_lexer.specs.Lexemes.{is_keyword, operator_text}
use Rattle.sql_tree.specs.declared.ColumnName.{ColumnName}
use Rattle.sql_tree.specs.declared.JoinOn.{JoinOn}
use Rattle.sql_tree.specs.declared.Operand.{Operand}
use Rattle.sql_tree.specs.declared.Operand.TheVariants as operand
use Rattle.sql_tree.specs.declared.Condition.{Condition, Condition-F, fold-Condition}
use Rattle.sql_tree.specs.declared.Condition.TheOpen.{Compare, In, IsNull, Not, And, Or}
use Rattle.sql_tree.specs.declared.Item.{Item}
use Rattle.sql_tree.specs.declared.Item.TheVariants as item
use Rattle.sql_tree.specs.declared.SelectList.{SelectList}
use Rattle.sql_tree.specs.declared.SelectList.TheVariants as shown
use Rattle.sql_tree.specs.declared.Key.{Key}
use Rattle.sql_tree.specs.declared.LimitClause.{LimitClause}
use Rattle.sql_tree.specs.declared.Assignment.{Assignment}
use Rattle.sql_tree.specs.declared.CharacterSet.{CharacterSet}
use Rattle.sql_tree.specs.declared.CharacterSet.TheVariants as charset
use Rattle.sql_tree.specs.declared.Select as S
use Rattle.sql_tree.specs.declared.Insert as I
use Rattle.sql_tree.specs.declared.Update as U
use Rattle.sql_tree.specs.declared.Delete as D
use Rattle.sql_tree.specs.declared.Statement.{Statement}
use Rattle.sql_tree.specs.declared.Statement.TheVariants.{Select, Insert, Update, Delete, Begin, Commit, Rollback, SetNames}
use Rattle.sql_tree.specs.Literals.{Name}

abbrev pub Text : Type 0
Text = List ℕ

-- each text with the other one before it
abbrev pub following : Text → List Text → Text
following between [] = []
following between (x ∷ xs) = between ++ x ++ following between xs

-- the texts with the other one between them
abbrev pub joined : Text → List Text → Text
joined between [] = []
joined between (x ∷ xs) = x ++ following between xs

abbrev pub commas : List Text → Text
commas = joined (codes ", ")

abbrev pub bracketed : Text → Text
bracketed t = codes "(" ++ t ++ codes ")"

-- an identifier is in backquotes if it is a keyword
unfoldable pub name_text : Name → Text
name_text name = if is_keyword name then 0x60 ∷ name ++ 0x60 ∷ [] else name

abbrev pub quoted_byte : ℕ → Text
quoted_byte b = if b == 0x27 then 0x27 ∷ 0x27 ∷ [] else if b == 0x5C then 0x5C ∷ 0x5C ∷ [] else b ∷ []

abbrev pub quoted : List ℕ → Text
quoted bytes = 0x27 ∷ flat_map quoted_byte bytes ++ 0x27 ∷ []

abbrev pub value_text : Value → Text
value_text Null = codes "NULL"
value_text (Int n) = signed_decimal n
value_text (Bytes t) = quoted t

abbrev pub qualifier_text : Option Name → Text
qualifier_text None = []
qualifier_text (Some t) = name_text t ++ codes "."

-- a column stands after its table and a dot if it is qualified
abbrev pub column_text : ColumnName → Text
column_text c = qualifier_text c.table ++ name_text c.name

abbrev pub operand_text : Operand ColumnName → Text
operand_text (operand.Column c) = column_text c
operand_text (operand.Literal v) = value_text v

-- the text of a condition, and whether it is an AND, an OR or another
pub data Printed : Type 0 where
  an_and : Text → Printed
  an_or : Text → Printed
  other : Text → Printed

abbrev pub text_of : Printed → Text
text_of (an_and t) = t
text_of (an_or t) = t
text_of (other t) = t

-- a member of an AND, and what stands under a NOT: an AND and an OR are in parentheses
abbrev pub inside_and : Printed → Text
inside_and (an_and t) = bracketed t
inside_and (an_or t) = bracketed t
inside_and (other t) = t

-- a member of an OR: an OR is in parentheses
abbrev pub inside_or : Printed → Text
inside_or (an_and t) = t
inside_or (an_or t) = bracketed t
inside_or (other t) = t

-- what is printed for a node, if each member is
abbrev pub node_printed : Condition-F ColumnName Printed → Printed
node_printed (Compare op a b) = other (operand_text a ++ codes " " ++ operator_text op ++ codes " " ++ operand_text b)
node_printed (In a members) = other (operand_text a ++ codes " IN " ++ bracketed (commas (map value_text members)))
node_printed (IsNull a) = other (operand_text a ++ codes " IS NULL")
node_printed (Not p) = other (codes "NOT " ++ inside_and p)
node_printed (And ps) = an_and (joined (codes " AND ") (map inside_and ps))
node_printed (Or ps) = an_or (joined (codes " OR ") (map inside_or ps))

abbrev pub condition_printed : Condition ColumnName → Printed
condition_printed = fold-Condition ColumnName Printed node_printed

abbrev pub condition_text : Condition ColumnName → Text
condition_text c = text_of (condition_printed c)

abbrev pub filter_text : Option (Condition ColumnName) → Text
filter_text None = []
filter_text (Some c) = codes " WHERE " ++ condition_text c

abbrev pub item_text : Item ColumnName → Text
item_text (item.Column c) = column_text c
item_text item.CountRows = codes "COUNT(*)"
item_text (item.Count c) = codes "COUNT" ++ bracketed (column_text c)
item_text (item.Sum c) = codes "SUM" ++ bracketed (column_text c)
item_text (item.Min c) = codes "MIN" ++ bracketed (column_text c)
item_text (item.Max c) = codes "MAX" ++ bracketed (column_text c)

abbrev pub list_text : SelectList → Text
list_text shown.All = codes "*"
list_text (shown.Items items) = commas (map item_text items)

abbrev pub key_text : Key ColumnName → Text
key_text k = column_text k.column ++ (if k.descending then codes " DESC" else [])

-- the second table, if there is one, and the columns that are equal
abbrev pub join_text : Option JoinOn → Text
join_text None = []
join_text (Some j) = codes " JOIN " ++ name_text j.table ++ codes " ON " ++ column_text j.left ++ codes " = " ++ column_text j.right

-- a clause that is left out if its list is empty
abbrev pub clause_text : Text → List Text → Text
clause_text words [] = []
clause_text words (x ∷ xs) = words ++ commas (x ∷ xs)

abbrev pub limit_text : Option LimitClause → Text
limit_text None = []
limit_text (Some l) = codes " LIMIT " ++ decimal l.count ++ (if l.offset == 0 then [] else codes " OFFSET " ++ decimal l.offset)

abbrev pub columns_text : Option (List Name) → Text
columns_text None = []
columns_text (Some names) = codes " " ++ bracketed (commas (map name_text names))

abbrev pub assignment_text : Assignment Name → Text
assignment_text a = name_text a.column ++ codes " = " ++ value_text a.value

abbrev pub charset_text : CharacterSet → Text
charset_text (charset.Identifier name) = name_text name
charset_text (charset.Text t) = quoted t

abbrev pub row_text : List Value → Text
row_text row = bracketed (commas (map value_text row))

abbrev pub select_text : S.Select → Text
select_text s =
    codes "SELECT " ++ list_text s.list ++ codes " FROM " ++ name_text s.table ++ join_text s.join ++ filter_text s.filter
    ++ clause_text (codes " GROUP BY ") (map column_text s.group_by) ++ clause_text (codes " ORDER BY ") (map key_text s.order_by) ++ limit_text s.limit

abbrev pub insert_text : I.Insert → Text
insert_text s =
    codes "INSERT INTO " ++ name_text s.table ++ columns_text s.columns ++ codes " VALUES " ++ commas (map row_text s.rows)

abbrev pub update_text : U.Update → Text
update_text s = codes "UPDATE " ++ name_text s.table ++ codes " SET " ++ commas (map assignment_text s.assignments) ++ filter_text s.filter

abbrev pub delete_text : D.Delete → Text
delete_text s = codes "DELETE FROM " ++ name_text s.table ++ filter_text s.filter

abbrev pub printed : Statement → Text
printed (Select s) = select_text s
printed (Insert s) = insert_text s
printed (Update s) = update_text s
printed (Delete s) = delete_text s
printed Begin = codes "BEGIN"
printed Commit = codes "COMMIT"
printed Rollback = codes "ROLLBACK"
printed (SetNames c) = codes "SET NAMES " ++ charset_text c
