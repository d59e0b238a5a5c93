-- Statements on the tables t and b: what they mean, or their first refusals.
use Rattle.std.proofs.Common.{ℕ, false, List, [], ◌∷◌, map, ◌≡◌, Option, Some, None, Ok, Err, pos, rules}
use Rattle.std.specs.Prelude.{codes}
use Rattle.vt_value.specs.declared.value.Value.TheVariants.{Int}
use Rattle.vt_value.specs.declared.value.Comparison.TheVariants.{Eq}
use Rattle.vt_value.specs.declared.refusal.Refusal.TheVariants.{UnknownTable, UnknownColumn, NotSupported, NotGrouped}
use Rattle.sql_tree.specs.declared.Operand.TheVariants.{Column, Literal}
use Rattle.sql_tree.specs.declared.Condition.{Condition, Compare, the_lemmas}
use Rattle.sql_tree.specs.declared.SelectList.{SelectList}
use Rattle.sql_tree.specs.declared.SelectList.TheVariants.{All, Items}
use Rattle.sql_tree.specs.declared.Item.{Item}
use Rattle.sql_tree.specs.declared.Item.TheVariants as item
use Rattle.sql_tree.specs.declared.Statement.{Statement}
use Rattle.sql_tree.specs.declared.Statement.TheVariants as statement
use Rattle.vschema.specs.declared.schema.Typed.TheVariants.{Select, Rollback}
use Rattle.sql_tree.specs.declared.ColumnName.{ColumnName}
use Rattle.vschema.specs.Resolved.{Name}
use Rattle.vschema.specs.TypedStatement.{typed_statement}
use Rattle.vschema.proofs.Example.{schema}

abbrev bare : Name → ColumnName
bare name = record { table = None; name = name }

abbrev of_table : Name → Name → ColumnName
of_table table name = record { table = Some table; name = name }

abbrev equals : Name → ℕ → Option (Condition ColumnName)
equals column n = Some (Compare Eq (Column (bare column)) (Literal (Int (pos n))))

abbrev select : SelectList → Name → Option (Condition ColumnName) → Statement
select list table filter = statement.Select (record { list = list; table = table; join = None; filter = filter; group_by = []; order_by = []; limit = None })

abbrev columns : List Name → SelectList
columns names = Items (map (λ name. item.Column (bare name)) names)

all_of_t : typed_statement schema (select All (codes "t") (equals (codes "id") 5))
    ≡ Ok (Select (record {
      table = 0;
      join = None;
      items = item.Column 0 ∷ item.Column 1 ∷ [];
      qualified = [];
      filter = Some (Compare Eq (Column 0) (Literal (Int (pos 5))));
      group_by = [];
      order_by = [];
      limit = None;
    }))
all_of_t = search (rules, the_lemmas)

columns_of_b : typed_statement schema (select (columns (codes "v" ∷ codes "k" ∷ codes "v" ∷ [])) (codes "b") None)
    ≡ Ok (Select (record { table = 1; join = None; items = item.Column 1 ∷ item.Column 0 ∷ item.Column 1 ∷ []; qualified = false ∷ false ∷ false ∷ []; filter = None; group_by = []; order_by = []; limit = None }))
columns_of_b = search (rules, the_lemmas)

unknown_table : typed_statement schema (select All (codes "x") (equals (codes "zz") 5)) ≡ Err UnknownTable
unknown_table = search (rules, the_lemmas)

unknown_column : typed_statement schema (select All (codes "b") (equals (codes "zz") 5)) ≡ Err UnknownColumn
unknown_column = search (rules, the_lemmas)

-- an unknown column comes before a comparison of a text with a number
unknown_in_list :
    typed_statement schema (select (columns (codes "K" ∷ [])) (codes "b") (equals (codes "k") 5)) ≡ Err UnknownColumn
unknown_in_list = search (rules, the_lemmas)

text_with_number : typed_statement schema (select All (codes "b") (equals (codes "k") 5)) ≡ Err NotSupported
text_with_number = search (rules, the_lemmas)

abbrev grouped : List (Item ColumnName) → List Name → Statement
grouped items names = statement.Select (record { list = Items items; table = codes "t"; join = None; filter = None; group_by = map bare names; order_by = []; limit = None })

count_of_b : typed_statement schema (select (Items (item.CountRows ∷ [])) (codes "b") None)
    ≡ Ok (Select (record { table = 1; join = None; items = item.CountRows ∷ []; qualified = false ∷ []; filter = None; group_by = []; order_by = []; limit = None }))
count_of_b = search (rules, the_lemmas)

-- id is neither grouped nor aggregated
ungrouped : typed_statement schema (grouped (item.Column (bare (codes "id")) ∷ item.CountRows ∷ []) (codes "c" ∷ [])) ≡ Err NotGrouped
ungrouped = search (rules, the_lemmas)

sum_of_texts : typed_statement schema (select (Items (item.Sum (bare (codes "v")) ∷ [])) (codes "b") None) ≡ Err NotSupported
sum_of_texts = search (rules, the_lemmas)

rollback : typed_statement schema statement.Rollback ≡ Ok Rollback
rollback = search (rules, the_lemmas)

-- ---- joins of t with b, whose vindex is another, and with itself

abbrev joined : SelectList → Name → ColumnName → ColumnName → Statement
joined list second left right = statement.Select (record {
  list = list;
  table = codes "t";
  join = Some (record { table = second; left = left; right = right });
  filter = None;
  group_by = [];
  order_by = [];
  limit = None;
})

other_vindex : typed_statement schema (joined All (codes "b") (of_table (codes "t") (codes "id")) (of_table (codes "b") (codes "k"))) ≡ Err NotSupported
other_vindex = search (rules, the_lemmas)

with_itself : typed_statement schema (joined All (codes "t") (of_table (codes "t") (codes "id")) (of_table (codes "t") (codes "id"))) ≡ Err NotSupported
with_itself = search (rules, the_lemmas)

-- a bare name that both have, which comes first
bare_in_both : typed_statement schema (joined (columns (codes "id" ∷ [])) (codes "t") (of_table (codes "t") (codes "id")) (of_table (codes "t") (codes "id")))
    ≡ Err UnknownColumn
bare_in_both = search (rules, the_lemmas)

unknown_qualifier : typed_statement schema (joined All (codes "b") (of_table (codes "u") (codes "n")) (of_table (codes "b") (codes "k"))) ≡ Err UnknownColumn
unknown_qualifier = search (rules, the_lemmas)

unknown_second : typed_statement schema (joined All (codes "zz") (of_table (codes "t") (codes "id")) (of_table (codes "b") (codes "k"))) ≡ Err UnknownTable
unknown_second = search (rules, the_lemmas)
