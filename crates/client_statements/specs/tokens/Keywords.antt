-- The words that the grammar of client statements names, in any case.
use Rattle.std.specs.Prelude.{ℕ, Bool, List, [], ◌∷◌, map, codes, bytes_eq, Option}
use Rattle.std.specs.Char.{to_ascii_lowercase}
use Rattle.std.specs.List.{find}
use Rattle.client_statements.specs.declared.tokens.token.Keyword.{Keyword}
use Rattle.client_statements.specs.declared.tokens.token.Keyword.TheVariants.{And, As, Begin, Between, By, Character, Charset, Collate, Columns, Commit, Committed, Concat, ConnectionId, Consistent, Count, CurrentUser, Database, Databases, Default, Delete, Desc, Describe, Distinct, False, Fields, From, Full, Global, Group, Having, In, Inner, Insert, Into, Is, Isolation, Join, Level, Like, Limit, Local, Names, Not, Null, Off, Offset, On, Only, Or, Order, Read, Repeatable, Rollback, Schema, Schemas, Select, Serializable, Session, SessionUser, Set, Show, Snapshot, Start, SystemUser, Tables, Transaction, True, Uncommitted, Update, Use, User, Value, Values, Variables, Version, Warnings, Where, With, Work, Write}

abbrev pub keywords : List Keyword
keywords =
    And ∷ As ∷ Begin ∷ Between ∷ By ∷ Character ∷ Charset ∷ Collate ∷ Columns ∷ Commit ∷ Committed ∷ Concat ∷ ConnectionId ∷ Consistent ∷ Count
    ∷ CurrentUser ∷ Database ∷ Databases ∷ Default ∷ Delete ∷ Desc ∷ Describe ∷ Distinct ∷ False ∷ Fields ∷ From ∷ Full ∷ Global ∷ Group ∷ Having ∷ In
    ∷ Inner ∷ Insert ∷ Into ∷ Is ∷ Isolation ∷ Join ∷ Level ∷ Like ∷ Limit ∷ Local ∷ Names ∷ Not ∷ Null ∷ Off ∷ Offset ∷ On ∷ Only ∷ Or ∷ Order ∷ Read
    ∷ Repeatable ∷ Rollback ∷ Schema ∷ Schemas ∷ Select ∷ Serializable ∷ Session ∷ SessionUser ∷ Set ∷ Show ∷ Snapshot ∷ Start ∷ SystemUser ∷ Tables
    ∷ Transaction ∷ True ∷ Uncommitted ∷ Update ∷ Use ∷ User ∷ Value ∷ Values ∷ Variables ∷ Version ∷ Warnings ∷ Where ∷ With ∷ Work ∷ Write ∷ []

abbrev pub keyword_text : Keyword → List ℕ
keyword_text And = codes "AND"
keyword_text As = codes "AS"
keyword_text Begin = codes "BEGIN"
keyword_text Between = codes "BETWEEN"
keyword_text By = codes "BY"
keyword_text Character = codes "CHARACTER"
keyword_text Charset = codes "CHARSET"
keyword_text Collate = codes "COLLATE"
keyword_text Columns = codes "COLUMNS"
keyword_text Commit = codes "COMMIT"
keyword_text Committed = codes "COMMITTED"
keyword_text Concat = codes "CONCAT"
keyword_text ConnectionId = codes "CONNECTION_ID"
keyword_text Consistent = codes "CONSISTENT"
keyword_text Count = codes "COUNT"
keyword_text CurrentUser = codes "CURRENT_USER"
keyword_text Database = codes "DATABASE"
keyword_text Databases = codes "DATABASES"
keyword_text Default = codes "DEFAULT"
keyword_text Delete = codes "DELETE"
keyword_text Desc = codes "DESC"
keyword_text Describe = codes "DESCRIBE"
keyword_text Distinct = codes "DISTINCT"
keyword_text False = codes "FALSE"
keyword_text Fields = codes "FIELDS"
keyword_text From = codes "FROM"
keyword_text Full = codes "FULL"
keyword_text Global = codes "GLOBAL"
keyword_text Group = codes "GROUP"
keyword_text Having = codes "HAVING"
keyword_text In = codes "IN"
keyword_text Inner = codes "INNER"
keyword_text Insert = codes "INSERT"
keyword_text Into = codes "INTO"
keyword_text Is = codes "IS"
keyword_text Isolation = codes "ISOLATION"
keyword_text Join = codes "JOIN"
keyword_text Level = codes "LEVEL"
keyword_text Like = codes "LIKE"
keyword_text Limit = codes "LIMIT"
keyword_text Local = codes "LOCAL"
keyword_text Names = codes "NAMES"
keyword_text Not = codes "NOT"
keyword_text Null = codes "NULL"
keyword_text Off = codes "OFF"
keyword_text Offset = codes "OFFSET"
keyword_text On = codes "ON"
keyword_text Only = codes "ONLY"
keyword_text Or = codes "OR"
keyword_text Order = codes "ORDER"
keyword_text Read = codes "READ"
keyword_text Repeatable = codes "REPEATABLE"
keyword_text Rollback = codes "ROLLBACK"
keyword_text Schema = codes "SCHEMA"
keyword_text Schemas = codes "SCHEMAS"
keyword_text Select = codes "SELECT"
keyword_text Serializable = codes "SERIALIZABLE"
keyword_text Session = codes "SESSION"
keyword_text SessionUser = codes "SESSION_USER"
keyword_text Set = codes "SET"
keyword_text Show = codes "SHOW"
keyword_text Snapshot = codes "SNAPSHOT"
keyword_text Start = codes "START"
keyword_text SystemUser = codes "SYSTEM_USER"
keyword_text Tables = codes "TABLES"
keyword_text Transaction = codes "TRANSACTION"
keyword_text True = codes "TRUE"
keyword_text Uncommitted = codes "UNCOMMITTED"
keyword_text Update = codes "UPDATE"
keyword_text Use = codes "USE"
keyword_text User = codes "USER"
keyword_text Value = codes "VALUE"
keyword_text Values = codes "VALUES"
keyword_text Variables = codes "VARIABLES"
keyword_text Version = codes "VERSION"
keyword_text Warnings = codes "WARNINGS"
keyword_text Where = codes "WHERE"
keyword_text With = codes "WITH"
keyword_text Work = codes "WORK"
keyword_text Write = codes "WRITE"

-- two words that differ at most in the case of ASCII letters
abbrev pub same_in_any_case : List ℕ → List ℕ → Bool
same_in_any_case a b = bytes_eq (map to_ascii_lowercase a) (map to_ascii_lowercase b)

-- the keyword that a word is in some case
unfoldable pub keyword_of : List ℕ → Option Keyword
keyword_of word = find (λ k. same_in_any_case word (keyword_text k)) keywords
