-- The keywords of the SQL that the router reads.
use Rattle.std.specs.Prelude.{ℕ, List, [], ◌∷◌, codes}
use Rattle.sql_lexer.specs.declared.token.Keyword.{Keyword}
use Rattle.sql_lexer.specs.declared.token.Keyword.TheVariants.{And, Asc, Begin, By, Commit, Count, Delete, Desc, From, Group, In, Inner, Insert, Into, Is, Join, Limit, Max, Min, Names, Not, Null, Offset, On, Or, Order, Rollback, Select, Set, Start, Sum, Transaction, Update, Values, Where}

abbrev pub keywords : List Keyword
keywords =
    And ∷ Asc ∷ Begin ∷ By ∷ Commit ∷ Count ∷ Delete ∷ Desc ∷
    From ∷ Group ∷ In ∷ Inner ∷ Insert ∷ Into ∷ Is ∷ Join ∷ Limit ∷ Max ∷
    Min ∷ Names ∷ Not ∷ Null ∷ Offset ∷ On ∷ Or ∷ Order ∷ Rollback ∷
    Select ∷ Set ∷ Start ∷ Sum ∷ Transaction ∷ Update ∷ Values ∷ Where ∷ []

-- the text of a keyword, in upper case
abbrev pub keyword_text : Keyword → List ℕ
keyword_text And = codes "AND"
keyword_text Asc = codes "ASC"
keyword_text Begin = codes "BEGIN"
keyword_text By = codes "BY"
keyword_text Commit = codes "COMMIT"
keyword_text Count = codes "COUNT"
keyword_text Delete = codes "DELETE"
keyword_text Desc = codes "DESC"
keyword_text From = codes "FROM"
keyword_text Group = codes "GROUP"
keyword_text In = codes "IN"
keyword_text Inner = codes "INNER"
keyword_text Insert = codes "INSERT"
keyword_text Into = codes "INTO"
keyword_text Is = codes "IS"
keyword_text Join = codes "JOIN"
keyword_text Limit = codes "LIMIT"
keyword_text Max = codes "MAX"
keyword_text Min = codes "MIN"
keyword_text Names = codes "NAMES"
keyword_text Not = codes "NOT"
keyword_text Null = codes "NULL"
keyword_text Offset = codes "OFFSET"
keyword_text On = codes "ON"
keyword_text Or = codes "OR"
keyword_text Order = codes "ORDER"
keyword_text Rollback = codes "ROLLBACK"
keyword_text Select = codes "SELECT"
keyword_text Set = codes "SET"
keyword_text Start = codes "START"
keyword_text Sum = codes "SUM"
keyword_text Transaction = codes "TRANSACTION"
keyword_text Update = codes "UPDATE"
keyword_text Values = codes "VALUES"
keyword_text Where = codes "WHERE"
