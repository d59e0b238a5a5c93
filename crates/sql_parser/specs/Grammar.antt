-- The grammar of statements, by cases over whole lists of tokens.
use Rattle.std.specs.Prelude.{◌≡◌, ℕ, zero, suc, ◌<◌, ◌≤◌, ◌^◌, Bool, true, false, pos, neg_ℤ, List, [], ◌∷◌, ◌++◌, map, codes, bytes_eq, Option, Some, None}
use Rattle.std.specs.Char.{to_ascii_lowercase}
use Rattle.std.specs.List.{list_any}
use Rattle.vt_value.specs.declared.value.Value.{Value}
use Rattle.vt_value.specs.declared.value.Value.TheVariants.{Null, Int, Bytes}
use Rattle.vt_value.specs.declared.value.Comparison.{Comparison}
use Rattle.vt_value.specs.declared.value.Comparison.TheVariants.{Eq}
use Rattle.sql_lexer.specs.declared.token.Token.{Token}
use Rattle.sql_lexer.specs.declared.token.Keyword.{Keyword}
use Rattle.sql_lexer.specs.declared.token.Keyword.TheVariants as K
use Rattle.sql_lexer.specs.declared.token.Sign.TheVariants.{LeftParenthesis, RightParenthesis, Star, Comma, Semicolon, Minus, Dot}
use Rattle.sql_lexer.specs.Lexemes.{Lexeme, keyword, identifier, number, text, sign, operator, lexemes_of}
use Rattle.sql_lexer.specs.Tokens.{Lexes}
use Rattle.sql_tree.specs.declared.ColumnName.{ColumnName}
use Rattle.sql_tree.specs.declared.JoinOn.{JoinOn}
use Rattle.sql_tree.specs.declared.Operand.{Operand}
use Rattle.sql_tree.specs.declared.Operand.TheVariants.{Column, Literal}
use Rattle.sql_tree.specs.declared.Condition.{Condition, Compare, In, IsNull, Not, And, Or}
use Rattle.sql_tree.specs.declared.Item.{Item}
use Rattle.sql_tree.specs.declared.Item.TheVariants as shown
use Rattle.sql_tree.specs.declared.SelectList.{SelectList}
use Rattle.sql_tree.specs.declared.SelectList.TheVariants.{All, Items}
use Rattle.sql_tree.specs.declared.Key.{Key}
use Rattle.sql_tree.specs.declared.LimitClause.{LimitClause}
use Rattle.sql_tree.specs.declared.Assignment.{Assignment}
use Rattle.sql_tree.specs.declared.CharacterSet.{CharacterSet}
use Rattle.sql_tree.specs.declared.CharacterSet.TheVariants as charset
use Rattle.sql_tree.specs.declared.Select as S
use Rattle.sql_tree.specs.declared.Insert as I
use Rattle.sql_tree.specs.declared.Update as U
use Rattle.sql_tree.specs.declared.Delete as D
use Rattle.sql_tree.specs.declared.Statement.{Statement}
use Rattle.sql_tree.specs.declared.Statement.TheVariants.{Select, Insert, Update, Delete, Begin, Commit, Rollback, SetNames}
use Rattle.sql_tree.specs.Literals.{Name, literals_of}
use Rattle.sql_parser.specs.Qualifiers.{qualifies_outside_select}

abbrev pub Lexemes : Type 0
Lexemes = List Lexeme

-- how many open parentheses and NOTs may be on one path, and how many literals in a statement
abbrev pub max_depth : ℕ
max_depth = 64

abbrev pub max_literals : ℕ
max_literals = 4096

-- ---- lists and options of any rule

-- what follows the first of several items: sep item sep item ..
pub data Follows {A : Type 0} (sep : Lexeme) (Item : Lexemes → A → Type 0) : Lexemes → List A → Type 0 where
  end : Follows sep Item [] []
  item : {ts us : Lexemes} {x : A} {xs : List A} → Item ts x → Follows sep Item us xs → Follows sep Item (sep ∷ ts ++ us) (x ∷ xs)

-- x,..
pub data Listed {A : Type 0} (Item : Lexemes → A → Type 0) : Lexemes → List A → Type 0 where
  items : {ts us : Lexemes} {x : A} {xs : List A} → Item ts x → Follows (sign Comma) Item us xs → Listed Item (ts ++ us) (x ∷ xs)

-- (x,..)
pub data Bracketed {A : Type 0} (Item : Lexemes → A → Type 0) : Lexemes → List A → Type 0 where
  brackets : {ts : Lexemes} {xs : List A} → Listed Item ts xs → Bracketed Item (sign LeftParenthesis ∷ ts ++ sign RightParenthesis ∷ []) xs

-- [x]
pub data Optional {A : Type 0} (Item : Lexemes → A → Type 0) : Lexemes → Option A → Type 0 where
  absent : Optional Item [] None
  present : {ts : Lexemes} {x : A} → Item ts x → Optional Item ts (Some x)

-- ---- names and literals

-- name = identifier
pub data ReadsName : Lexemes → Name → Type 0 where
  name : (bytes : Name) → ReadsName (identifier bytes ∷ []) bytes

-- column = identifier | identifier . identifier
pub data ReadsColumn : Lexemes → ColumnName → Type 0 where
  bare : (bytes : Name) → ReadsColumn (identifier bytes ∷ []) (record { table = None; name = bytes })
  qualified : (table bytes : Name) → ReadsColumn (identifier table ∷ sign Dot ∷ identifier bytes ∷ []) (record { table = Some table; name = bytes })

-- literal = number | - number | string | NULL, where a number with its sign is one of - 2 ^ 63 to 2 ^ 64 - 1
pub data ReadsLiteral : Lexemes → Value → Type 0 where
  null : ReadsLiteral (keyword K.Null ∷ []) Null
  natural : (n : ℕ) → n < 2 ^ 64 → ReadsLiteral (number n ∷ []) (Int (pos n))
  negative : (n : ℕ) → n ≤ 2 ^ 63 → ReadsLiteral (sign Minus ∷ number n ∷ []) (Int (neg_ℤ (pos n)))
  string : (bytes : List ℕ) → ReadsLiteral (text bytes ∷ []) (Bytes bytes)

-- operand = column | literal
pub data ReadsOperand : Lexemes → Operand ColumnName → Type 0 where
  column : {ts : Lexemes} {c : ColumnName} → ReadsColumn ts c → ReadsOperand ts (Column c)
  literal : {ts : Lexemes} {v : Value} → ReadsLiteral ts v → ReadsOperand ts (Literal v)

-- ---- conditions

-- operand op operand | operand IN (literal,..) | operand IS NULL
pub data ReadsTest : Lexemes → Condition ColumnName → Type 0 where
  compare : {ts us : Lexemes} {left right : Operand ColumnName} {op : Comparison} → ReadsOperand ts left → ReadsOperand us right
      → ReadsTest (ts ++ operator op ∷ us) (Compare op left right)
  in_list : {ts us : Lexemes} {left : Operand ColumnName} {members : List Value} → ReadsOperand ts left → Bracketed ReadsLiteral us members
      → ReadsTest (ts ++ keyword K.In ∷ us) (In left members)
  is_null : {ts : Lexemes} {left : Operand ColumnName} → ReadsOperand ts left → ReadsTest (ts ++ keyword K.Is ∷ keyword K.Null ∷ []) (IsNull left)

-- x | x AND x AND .. , and the same with OR: two or more are a node of the tree
pub data Joined (sep : Lexeme) (node : List (Condition ColumnName) → Condition ColumnName) (Item : Lexemes → Condition ColumnName → Type 0)
    : Lexemes → Condition ColumnName → Type 0 where
  single : {ts : Lexemes} {x : Condition ColumnName} → Item ts x → Joined sep node Item ts x
  several : {ts us : Lexemes} {x y : Condition ColumnName} {zs : List (Condition ColumnName)} → Item ts x → Follows sep Item us (y ∷ zs)
      → Joined sep node Item (ts ++ us) (node (x ∷ y ∷ zs))

-- or = and | and OR and OR .. , and = not | not AND not AND ..
abbrev pub OrOf : (Lexemes → Condition ColumnName → Type 0) → Lexemes → Condition ColumnName → Type 0
OrOf Negation = Joined (keyword K.Or) Or (Joined (keyword K.And) And Negation)

-- not = NOT not | operand NOT IN (literal,..) | operand IS NOT NULL | ( or ) | a test, where Deeper reads what stands one NOT or one
-- parenthesis deeper. A NOT IN and an IS NOT NULL are a NOT in the tree, and parentheses leave no node.
pub data NotOf (Deeper : Lexemes → Condition ColumnName → Type 0) : Lexemes → Condition ColumnName → Type 0 where
  test : {ts : Lexemes} {x : Condition ColumnName} → ReadsTest ts x → NotOf Deeper ts x
  negated : {ts : Lexemes} {x : Condition ColumnName} → Deeper ts x → NotOf Deeper (keyword K.Not ∷ ts) (Not x)
  not_in : {ts us : Lexemes} {left : Operand ColumnName} {members : List Value} → ReadsOperand ts left → Bracketed ReadsLiteral us members
      → NotOf Deeper (ts ++ keyword K.Not ∷ keyword K.In ∷ us) (Not (In left members))
  is_not_null : {ts : Lexemes} {left : Operand ColumnName} → ReadsOperand ts left
      → NotOf Deeper (ts ++ keyword K.Is ∷ keyword K.Not ∷ keyword K.Null ∷ []) (Not (IsNull left))
  parentheses : {ts : Lexemes} {x : Condition ColumnName} → OrOf Deeper ts x → NotOf Deeper (sign LeftParenthesis ∷ ts ++ sign RightParenthesis ∷ []) x

-- not, where at most so many open parentheses and NOTs stand on one path
abbrev pub ReadsNot : ℕ → Lexemes → Condition ColumnName → Type 0
ReadsNot zero = ReadsTest
ReadsNot (suc depth) = NotOf (ReadsNot depth)

abbrev pub ReadsOr : ℕ → Lexemes → Condition ColumnName → Type 0
ReadsOr depth = OrOf (ReadsNot depth)

-- WHERE or
pub data ReadsWhere : Lexemes → Condition ColumnName → Type 0 where
  filter : {ts : Lexemes} {x : Condition ColumnName} → ReadsOr max_depth ts x → ReadsWhere (keyword K.Where ∷ ts) x

-- ---- the parts of statements

-- an aggregate of a column
abbrev pub call : Keyword → Lexemes → Lexemes
call f inside = keyword f ∷ sign LeftParenthesis ∷ inside ++ sign RightParenthesis ∷ []

-- item = column | COUNT(*) | COUNT(column) | SUM(column) | MIN(column) | MAX(column)
pub data ReadsItem : Lexemes → Item ColumnName → Type 0 where
  column_item : {ts : Lexemes} {c : ColumnName} → ReadsColumn ts c → ReadsItem ts (shown.Column c)
  count_rows : ReadsItem (call K.Count (sign Star ∷ [])) shown.CountRows
  count_item : {ts : Lexemes} {c : ColumnName} → ReadsColumn ts c → ReadsItem (call K.Count ts) (shown.Count c)
  sum_item : {ts : Lexemes} {c : ColumnName} → ReadsColumn ts c → ReadsItem (call K.Sum ts) (shown.Sum c)
  min_item : {ts : Lexemes} {c : ColumnName} → ReadsColumn ts c → ReadsItem (call K.Min ts) (shown.Min c)
  max_item : {ts : Lexemes} {c : ColumnName} → ReadsColumn ts c → ReadsItem (call K.Max ts) (shown.Max c)

-- * | item,..
pub data ReadsList : Lexemes → SelectList → Type 0 where
  star : ReadsList (sign Star ∷ []) All
  listed : {ts : Lexemes} {xs : List (Item ColumnName)} → Listed ReadsItem ts xs → ReadsList ts (Items xs)

-- key = column [ASC | DESC]
pub data ReadsKey : Lexemes → Key ColumnName → Type 0 where
  plain_key : {ts : Lexemes} {c : ColumnName} → ReadsColumn ts c → ReadsKey ts (record { column = c; descending = false })
  ascending_key : {ts : Lexemes} {c : ColumnName} → ReadsColumn ts c → ReadsKey (ts ++ keyword K.Asc ∷ []) (record { column = c; descending = false })
  descending_key : {ts : Lexemes} {c : ColumnName} → ReadsColumn ts c → ReadsKey (ts ++ keyword K.Desc ∷ []) (record { column = c; descending = true })

-- [words x,..], a list that is empty if the clause isn't there
pub data Clause {A : Type 0} (words : Lexemes) (Item : Lexemes → A → Type 0) : Lexemes → List A → Type 0 where
  without : Clause words Item [] []
  clause : {ts : Lexemes} {xs : List A} → Listed Item ts xs → Clause words Item (words ++ ts) xs

abbrev pub ReadsGroup : Lexemes → List ColumnName → Type 0
ReadsGroup = Clause (keyword K.Group ∷ keyword K.By ∷ []) ReadsColumn

abbrev pub ReadsOrder : Lexemes → List (Key ColumnName) → Type 0
ReadsOrder = Clause (keyword K.Order ∷ keyword K.By ∷ []) ReadsKey

-- LIMIT count [OFFSET count], whose counts are less than 2 ^ 64. Without an OFFSET it is 0.
pub data ReadsLimit : Lexemes → LimitClause → Type 0 where
  limit : (n : ℕ) → n < 2 ^ 64 → ReadsLimit (keyword K.Limit ∷ number n ∷ []) (record { count = n; offset = 0 })
  offset : (n m : ℕ) → n < 2 ^ 64 → m < 2 ^ 64
      → ReadsLimit (keyword K.Limit ∷ number n ∷ keyword K.Offset ∷ number m ∷ []) (record { count = n; offset = m })

-- name = literal
pub data ReadsAssignment : Lexemes → Assignment Name → Type 0 where
  assignment : (bytes : Name) {ts : Lexemes} {v : Value} → ReadsLiteral ts v
      → ReadsAssignment (identifier bytes ∷ operator Eq ∷ ts) (record { column = bytes; value = v })

-- identifier | string
pub data ReadsCharacterSet : Lexemes → CharacterSet → Type 0 where
  by_identifier : (bytes : List ℕ) → ReadsCharacterSet (identifier bytes ∷ []) (charset.Identifier bytes)
  by_text : (bytes : List ℕ) → ReadsCharacterSet (text bytes ∷ []) (charset.Text bytes)

-- [INNER] JOIN name ON column = column
pub data ReadsJoin : Lexemes → JoinOn → Type 0 where
  join : {table : Name} {ts us : Lexemes} {left right : ColumnName} → ReadsColumn ts left → ReadsColumn us right
      → ReadsJoin (keyword K.Join ∷ identifier table ∷ keyword K.On ∷ ts ++ operator Eq ∷ us) (record { table = table; left = left; right = right })
  inner_join : {table : Name} {ts us : Lexemes} {left right : ColumnName} → ReadsColumn ts left → ReadsColumn us right
      → ReadsJoin (keyword K.Inner ∷ keyword K.Join ∷ identifier table ∷ keyword K.On ∷ ts ++ operator Eq ∷ us)
      (record { table = table; left = left; right = right })

-- ---- statements

-- SELECT list FROM name [[INNER] JOIN name ON column = column] [WHERE or] [GROUP BY column,..] [ORDER BY key,..] [LIMIT count [OFFSET count]]
pub data ReadsSelect : Lexemes → S.Select → Type 0 where
  select : {list_tokens join_tokens filter_tokens group_tokens order_tokens limit_tokens : Lexemes} {list : SelectList} {table : Name} {join : Option JoinOn}
      {filter : Option (Condition ColumnName)} {group_by : List ColumnName} {order_by : List (Key ColumnName)} {limit : Option LimitClause}
      → ReadsList list_tokens list → Optional ReadsJoin join_tokens join → Optional ReadsWhere filter_tokens filter → ReadsGroup group_tokens group_by
      → ReadsOrder order_tokens order_by → Optional ReadsLimit limit_tokens limit
      → ReadsSelect
      (keyword K.Select ∷ list_tokens
      ++ (keyword K.From ∷ identifier table ∷ join_tokens ++ (filter_tokens ++ (group_tokens ++ (order_tokens ++ limit_tokens)))))
      (record { list = list; table = table; join = join; filter = filter; group_by = group_by; order_by = order_by; limit = limit })

-- INSERT INTO name [(name,..)] VALUES (literal,..),..
pub data ReadsInsert : Lexemes → I.Insert → Type 0 where
  insert : {column_tokens row_tokens : Lexemes} {table : Name} {columns : Option (List Name)} {rows : List (List Value)}
      → Optional (Bracketed ReadsName) column_tokens columns → Listed (Bracketed ReadsLiteral) row_tokens rows
      → ReadsInsert (keyword K.Insert ∷ keyword K.Into ∷ identifier table ∷ column_tokens ++ (keyword K.Values ∷ row_tokens))
      (record { table = table; columns = columns; rows = rows })

-- UPDATE name SET name = literal,.. [WHERE or]
pub data ReadsUpdate : Lexemes → U.Update → Type 0 where
  update : {assignment_tokens filter_tokens : Lexemes} {table : Name} {assignments : List (Assignment Name)} {filter : Option (Condition ColumnName)}
      → Listed ReadsAssignment assignment_tokens assignments → Optional ReadsWhere filter_tokens filter
      → ReadsUpdate (keyword K.Update ∷ identifier table ∷ keyword K.Set ∷ assignment_tokens ++ filter_tokens)
      (record { table = table; assignments = assignments; filter = filter })

-- DELETE FROM name [WHERE or]
pub data ReadsDelete : Lexemes → D.Delete → Type 0 where
  delete : {filter_tokens : Lexemes} {table : Name} {filter : Option (Condition ColumnName)} → Optional ReadsWhere filter_tokens filter
      → ReadsDelete (keyword K.Delete ∷ keyword K.From ∷ identifier table ∷ filter_tokens) (record { table = table; filter = filter })

-- what clients set to a character set or to a collation besides SET NAMES
abbrev pub settings : List (List ℕ)
settings = codes "character_set_server" ∷ codes "collation_connection" ∷ codes "collation_server" ∷ []

-- the name is one of these, in any case
abbrev pub is_setting : Name → Bool
is_setting word = list_any (λ setting. bytes_eq (map to_ascii_lowercase word) setting) settings

-- START TRANSACTION is a second spelling of BEGIN, and SET of one of the settings one of SET NAMES: both change nothing.
pub data ReadsStatement : Lexemes → Statement → Type 0 where
  select_is : {ts : Lexemes} {s : S.Select} → ReadsSelect ts s → ReadsStatement ts (Select s)
  insert_is : {ts : Lexemes} {s : I.Insert} → ReadsInsert ts s → ReadsStatement ts (Insert s)
  update_is : {ts : Lexemes} {s : U.Update} → ReadsUpdate ts s → ReadsStatement ts (Update s)
  delete_is : {ts : Lexemes} {s : D.Delete} → ReadsDelete ts s → ReadsStatement ts (Delete s)
  begin : ReadsStatement (keyword K.Begin ∷ []) Begin
  start_transaction : ReadsStatement (keyword K.Start ∷ keyword K.Transaction ∷ []) Begin
  commit : ReadsStatement (keyword K.Commit ∷ []) Commit
  rollback : ReadsStatement (keyword K.Rollback ∷ []) Rollback
  set_names : {ts : Lexemes} {set : CharacterSet} → ReadsCharacterSet ts set → ReadsStatement (keyword K.Set ∷ keyword K.Names ∷ ts) (SetNames set)
  set_setting : {name : Name} {ts : Lexemes} {set : CharacterSet} → is_setting name ≡ true → ReadsCharacterSet ts set
      → ReadsStatement (keyword K.Set ∷ identifier name ∷ operator Eq ∷ ts) (SetNames set)

-- a statement, and at most one semicolon
pub data ReadsText : Lexemes → Statement → Type 0 where
  statement : {ts : Lexemes} {s : Statement} → ReadsStatement ts s → ReadsText ts s
  semicolon : {ts : Lexemes} {s : Statement} → ReadsStatement ts s → ReadsText (ts ++ sign Semicolon ∷ []) s

-- The tokens of the text stand for this statement, which has no more literals than it may, and names tables before columns in a SELECT alone.
abbrev pub Reads : List ℕ → Statement → Type 0
Reads bytes s =
    (tokens : List Token) × Lexes bytes tokens × ReadsText (lexemes_of bytes tokens) s × (literals_of s ≤ max_literals) × (qualifies_outside_select s ≡ false)
