-- Writes over the rows (1, NULL), (2, NULL), (3, 7), (5, 9) of t.
use Rattle.std.proofs.Common.{◌≡◌, ℕ, List, [], ◌∷◌, map, filter, refl, ap, Some, None, Ok, Err, pos}
use Rattle.vt_value.specs.declared.value.Value.{Value}
use Rattle.vt_value.specs.declared.value.Value.TheVariants.{Null, Int}
use Rattle.vt_value.specs.declared.value.Comparison.TheVariants.{Eq}
use Rattle.vt_value.specs.declared.refusal.Refusal.TheVariants.{DuplicateKey}
use Rattle.vt_value.specs.Values.{Row, value_at, compare, is_true}
use Rattle.sql_tree.specs.declared.Operand.TheVariants.{Column, Literal}
use Rattle.sql_tree.specs.declared.Condition.{Condition, Compare}
use Rattle.vschema.specs.declared.changes.Write.TheVariants.{Insert, Update, Delete}
use Rattle.vschema.specs.declared.changes.RowChange.TheVariants.{Added, Replaced, Removed}
use Rattle.vschema.specs.Database.{Database}
use Rattle.vschema.proofs.Example.{schema}
use Rattle.sql_eval.specs.Conditions.{is_kept}
use Rattle.sql_eval.specs.Writes.{changes_of, change}
use Rattle.sql_eval.proofs.ConditionLemmas.{truth_at-Compare}

abbrev n : ℕ → Value
n k = Int (pos k)

abbrev t_rows : List Row
t_rows = (n 1 ∷ Null ∷ []) ∷ (n 2 ∷ Null ∷ []) ∷ (n 3 ∷ n 7 ∷ []) ∷ (n 5 ∷ n 9 ∷ []) ∷ []

abbrev db : Database
db = t_rows ∷ [] ∷ [] ∷ []

-- INSERT of (8, 1), (2, 1), and of (8, 1), (8, 2)
duplicate : changes_of schema (Insert 0 ((n 8 ∷ n 1 ∷ []) ∷ (n 2 ∷ n 1 ∷ []) ∷ [])) db ≡ Err DuplicateKey
duplicate = refl

duplicate_within : changes_of schema (Insert 0 ((n 8 ∷ n 1 ∷ []) ∷ (n 8 ∷ n 2 ∷ []) ∷ [])) db ≡ Err DuplicateKey
duplicate_within = refl

inserted : changes_of schema (Insert 0 ((n 8 ∷ n 1 ∷ []) ∷ [])) db ≡ Ok (Added 0 (n 8 ∷ n 1 ∷ []) ∷ [])
inserted = refl

inserted_into : change schema (Insert 1 ((n 8 ∷ n 1 ∷ []) ∷ [])) db ≡ Ok (t_rows ∷ ((n 8 ∷ n 1 ∷ []) ∷ []) ∷ [] ∷ [], 1)
inserted_into = refl

-- UPDATE t SET c = 7: the rows whose values really change
updated :
    changes_of schema (Update 0 (record { column = 1; value = n 7 } ∷ []) None) db
    ≡ Ok (Replaced 0 (n 1 ∷ Null ∷ []) (n 1 ∷ n 7 ∷ []) ∷ Replaced 0 (n 2 ∷ Null ∷ []) (n 2 ∷ n 7 ∷ [])
    ∷ Replaced 0 (n 5 ∷ n 9 ∷ []) (n 5 ∷ n 7 ∷ []) ∷ [])
updated = refl

-- the new row stands last: the order of rows says nothing
updated_rows :
    change schema (Update 0 (record { column = 1; value = n 7 } ∷ []) None) (((n 2 ∷ Null ∷ []) ∷ (n 3 ∷ n 7 ∷ []) ∷ []) ∷ [])
    ≡ Ok (((n 3 ∷ n 7 ∷ []) ∷ (n 2 ∷ n 7 ∷ []) ∷ []) ∷ [], 1)
updated_rows = refl

-- DELETE FROM t WHERE c = 7, and of all rows
abbrev c_is_7 : Condition ℕ
c_is_7 = Compare Eq (Column 1) (Literal (n 7))

deleted : changes_of schema (Delete 0 (Some c_is_7)) db ≡ Ok (Removed 0 (n 3 ∷ n 7 ∷ []) ∷ [])
deleted =
    ap (λ test. Ok (map (Removed 0) (filter test t_rows)))
    (λ i row. same row i)
  where
    same : (row : Row) → is_kept (Some c_is_7) row ≡ is_true (compare Eq (value_at row 1) (n 7))
    same row = ap is_true (truth_at-Compare row Eq (Column 1) (Literal (n 7)))

all_deleted : change schema (Delete 0 None) db ≡ Ok ([] ∷ [] ∷ [] ∷ [], 4)
all_deleted = refl
