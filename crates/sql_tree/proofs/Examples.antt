-- Printed statements.
use Rattle.std.proofs.Common.{[], ◌∷◌, ◌≡◌, refl, None, Some, false, rules}
use Rattle.std.specs.Prelude.{codes}
use Rattle.sql_tree.specs.declared.Operand.TheVariants.{Column}
use Rattle.sql_tree.specs.declared.Condition.{Condition, IsNull, Not, And, Or, the_lemmas}
use Rattle.sql_tree.specs.declared.Item.TheVariants as shown
use Rattle.sql_tree.specs.declared.SelectList.TheVariants.{All, Items}
use Rattle.sql_tree.specs.declared.Statement.TheVariants.{Select}
use Rattle.sql_tree.specs.declared.ColumnName.{ColumnName}
use Rattle.sql_tree.specs.Literals.{Name}
use Rattle.sql_tree.specs.Printing.{printed, condition_text, name_text}

abbrev bare : Name → ColumnName
bare name = record { table = None; name = name }

abbrev of_table : Name → Name → ColumnName
of_table table name = record { table = Some table; name = name }

abbrev c_is_null : Condition ColumnName
c_is_null = IsNull (Column (bare (codes "c")))

-- keywords stand in backquotes, ASC isn't printed
quoted_names :
    printed (Select (record {
      list = Items (shown.Column (bare (codes "from")) ∷ shown.Column (bare (codes "c")) ∷ []);
      table = codes "t";
      join = None;
      filter = None;
      group_by = [];
      order_by = record { column = bare (codes "c"); descending = false } ∷ [];
      limit = None;
    }))
    ≡ codes "SELECT `from`, c FROM t ORDER BY c"
unfolding name_text
quoted_names = refl

-- a join, whose columns are qualified
joined_tables :
    printed (Select (record {
      list = All;
      table = codes "t";
      join = Some (record { table = codes "w"; left = of_table (codes "t") (codes "id"); right = of_table (codes "w") (codes "by") });
      filter = None;
      group_by = [];
      order_by = [];
      limit = None;
    }))
    ≡ codes "SELECT * FROM t JOIN w ON t.id = w.`by`"
unfolding name_text
joined_tables = refl

-- an AND in an OR has no parentheses, and an OR under a NOT has some
parentheses : condition_text (Not (Or (c_is_null ∷ And (c_is_null ∷ Not c_is_null ∷ []) ∷ []))) ≡ codes "NOT (c IS NULL OR c IS NULL AND NOT c IS NULL)"
unfolding name_text
parentheses = search (rules, the_lemmas)
