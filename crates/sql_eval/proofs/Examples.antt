-- Queries over six rows of t: (1, NULL), (2, NULL), (3, 7), (4, 7), (5, 9), (6, 1).
use Rattle.std.proofs.Common.{◌≡◌, ℕ, List, [], ◌∷◌, map, filter, refl, ap, ◌∙◌, Some, None, Option, pos, Bool, false}
use Rattle.vt_value.specs.declared.value.Value.{Value}
use Rattle.vt_value.specs.declared.value.Value.TheVariants.{Null, Int}
use Rattle.vt_value.specs.declared.value.Comparison.TheVariants.{Eq}
use Rattle.vt_value.specs.Values.{Row, value_at, compare, in_list, is_true, truth_not}
use Rattle.sql_tree.specs.declared.Operand.TheVariants.{Column, Literal}
use Rattle.sql_tree.specs.declared.Condition.{Condition, Compare, In, Not}
use Rattle.sql_tree.specs.declared.Key.{Key}
use Rattle.vschema.specs.declared.schema.Query.{Query}
use Rattle.sql_eval.specs.Conditions.{is_kept}
use Rattle.sql_eval.specs.Queries.{Keyed, kept_rows, keyed_row, IsAnswer}
use Rattle.sql_tree.specs.declared.Item.{Item}
use Rattle.sql_tree.specs.declared.Item.TheVariants as item
use Rattle.sql_eval.proofs.ConditionLemmas.{truth_at-Compare, truth_at-In, truth_at-Not}

abbrev n : ℕ → Value
n k = Int (pos k)

abbrev t_rows : List Row
t_rows = (n 1 ∷ Null ∷ []) ∷ (n 2 ∷ Null ∷ []) ∷ (n 3 ∷ n 7 ∷ []) ∷ (n 4 ∷ n 7 ∷ []) ∷ (n 5 ∷ n 9 ∷ []) ∷ (n 6 ∷ n 1 ∷ []) ∷ []

abbrev query : List ℕ → Option (Condition ℕ) → Query
query ordinals filter' = record { table = 0; join = None; items = map item.Column ordinals; qualified = []; filter = filter'; group_by = []; order_by = []; limit = None }

-- which rows a condition keeps, by its plain test
kept_by : (c : Condition ℕ) (p : Row → Bool) → ((row : Row) → is_kept (Some c) row ≡ p row) → filter (is_kept (Some c)) t_rows ≡ filter p t_rows
kept_by c p same = ap (λ test. filter test t_rows) (λ i row. same row i)

-- a row without sort keys
abbrev alone : Row → Keyed
alone row = (row, [])

all_ids : kept_rows (query (0 ∷ []) None) t_rows ≡ map alone ((n 1 ∷ []) ∷ (n 2 ∷ []) ∷ (n 3 ∷ []) ∷ (n 4 ∷ []) ∷ (n 5 ∷ []) ∷ (n 6 ∷ []) ∷ [])
all_ids = refl

abbrev id_is_5 : Condition ℕ
id_is_5 = Compare Eq (Column 0) (Literal (n 5))

one_row : kept_rows (query (0 ∷ 1 ∷ []) (Some id_is_5)) t_rows ≡ alone (n 5 ∷ n 9 ∷ []) ∷ []
one_row =
    ap (map (keyed_row (query (0 ∷ 1 ∷ []) (Some id_is_5))))
    (kept_by id_is_5 (λ row. is_true (compare Eq (value_at row 0) (n 5))) (λ row. ap is_true (truth_at-Compare row Eq (Column 0) (Literal (n 5)))))

-- c = NULL keeps no row
abbrev is_null_constant : Condition ℕ
is_null_constant = Compare Eq (Column 1) (Literal Null)

no_row : filter (is_kept (Some is_null_constant)) t_rows ≡ []
no_row = kept_by is_null_constant (λ row. is_true (compare Eq (value_at row 1) Null)) (λ row. ap is_true (truth_at-Compare row Eq (Column 1) (Literal Null)))

-- c IN (7, NULL) keeps ids 3 and 4, its NOT no row, and NOT c = 7 keeps 5 and 6
abbrev among : Condition ℕ
among = In (Column 1) (n 7 ∷ Null ∷ [])

two_rows : filter (is_kept (Some among)) t_rows ≡ (n 3 ∷ n 7 ∷ []) ∷ (n 4 ∷ n 7 ∷ []) ∷ []
two_rows = kept_by among (λ row. is_true (in_list (value_at row 1) (n 7 ∷ Null ∷ []))) (λ row. ap is_true (truth_at-In row (Column 1) (n 7 ∷ Null ∷ [])))

negated : filter (is_kept (Some (Not among))) t_rows ≡ []
negated =
    kept_by (Not among) (λ row. is_true (truth_not (in_list (value_at row 1) (n 7 ∷ Null ∷ []))))
    (λ row. ap is_true (truth_at-Not row among ∙ ap truth_not (truth_at-In row (Column 1) (n 7 ∷ Null ∷ []))))

abbrev c_is_7 : Condition ℕ
c_is_7 = Compare Eq (Column 1) (Literal (n 7))

others : filter (is_kept (Some (Not c_is_7))) t_rows ≡ (n 5 ∷ n 9 ∷ []) ∷ (n 6 ∷ n 1 ∷ []) ∷ []
others =
    kept_by (Not c_is_7) (λ row. is_true (truth_not (compare Eq (value_at row 1) (n 7))))
    (λ row. ap is_true (truth_at-Not row c_is_7 ∙ ap truth_not (truth_at-Compare row Eq (Column 1) (Literal (n 7)))))

abbrev grouped : List (Item ℕ) → List ℕ → List (Key ℕ) → Query
grouped items group_by order_by = record { table = 0; join = None; items = items; qualified = []; filter = None; group_by = group_by; order_by = order_by; limit = None }

-- COUNT(*) over no rows is one row 0, but none with a GROUP BY
no_rows : kept_rows (grouped (item.CountRows ∷ []) [] []) [] ≡ alone (n 0 ∷ []) ∷ []
no_rows = refl

no_groups : kept_rows (grouped (item.CountRows ∷ []) (1 ∷ []) []) [] ≡ []
no_groups = refl

-- MIN and SUM past 64 bits
abbrev largest : Value
largest = n 18446744073709551615

wide : kept_rows (grouped (item.Min 1 ∷ item.Sum 1 ∷ []) [] []) ((n 1 ∷ largest ∷ []) ∷ (n 3 ∷ largest ∷ []) ∷ []) ≡ alone (largest ∷ n 36893488147419103230 ∷ []) ∷ []
wide = refl

-- c and COUNT(*) by c, with the sort key c: NULLs are one group
counts : kept_rows (grouped (item.Column 1 ∷ item.CountRows ∷ []) (1 ∷ []) (record { column = 1; descending = false } ∷ [])) t_rows
    ≡ ((Null ∷ n 2 ∷ []), (Null ∷ [])) ∷ ((n 7 ∷ n 2 ∷ []), (n 7 ∷ [])) ∷ ((n 9 ∷ n 1 ∷ []), (n 9 ∷ [])) ∷ ((n 1 ∷ n 1 ∷ []), (n 1 ∷ [])) ∷ []
counts = refl

-- COUNT(c), SUM(c), MAX(c)
all_of_c : kept_rows (grouped (item.Count 1 ∷ item.Sum 1 ∷ item.Max 1 ∷ []) [] []) t_rows ≡ alone (n 4 ∷ n 24 ∷ n 9 ∷ []) ∷ []
all_of_c = refl

-- with LIMIT 0 no row is left of COUNT(*)
limited : (list : List Row) → IsAnswer (record { table = 0; join = None; items = item.CountRows ∷ []; qualified = []; filter = None; group_by = []; order_by = []; limit = Some (record { count = 0; offset = 0 }) }) t_rows list → list ≡ []
limited list answer = answer.3
