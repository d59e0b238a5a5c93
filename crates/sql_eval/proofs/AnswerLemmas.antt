-- The slice of the sorted rows, or groups, by the shown columns, is an answer.
use Rattle.std.proofs.Common.{◌≡◌, ℕ, ◌+◌, ◌<◌, Bool, true, false, List, [], ◌∷◌, length, map, filter, take, drop, get_or, Option, Some, None, refl, sym, ap, subst, ◌∙◌, arith}
use Rattle.std.specs.Prelude.{IsPermutation, IsSorted, ◌||◌, Result, Ok, Err, IfOk}
use Rattle.std.specs.List.{list_any}
use Rattle.std.specs.Ordering.{is_lt}
use Rattle.std.proofs.lemmas.List.{get_or-map, length-map, take-map, drop-map}
use Rattle.std.proofs.lemmas.List.Sorted.{IsPermutation-map}
use Rattle.sql_tree.specs.declared.Key.{Key}
use Rattle.vt_value.specs.Values.{Row, value_at}
use Rattle.sql_tree.specs.declared.Item.{Item}
use Rattle.sql_tree.specs.declared.Item.TheVariants.{Column, CountRows, Count, Sum, Min, Max}
use Rattle.sql_tree.specs.declared.LimitClause.{LimitClause}
use Rattle.aggregate.specs.Orders.{keys_cmp, sort_values, row_cmp}
use Rattle.aggregate.specs.Slices.{sliced, columns_of}
use Rattle.vschema.specs.declared.schema.Query.{Query}
use Rattle.vschema.specs.Checks.{is_aggregate, is_aggregated}
use Rattle.sql_eval.specs.Conditions.{is_kept}
use Rattle.sql_eval.specs.Grouping.{shown_ordinal, group_columns, group_order, IsSortedSlice}
use Rattle.sql_eval.specs.inner.Parts.{grouped_rows}
use Rattle.sql_eval.specs.Queries.{Keyed, shown_value, shown, keyed_row, keyed_groups, kept_rows, IsAnswer}
use Rattle.sql_eval.proofs.GroupLemmas.{map_both, keyed_wide, keyed_is, same_cmp}

or_left : (a b : Bool) → (a || b) ≡ false → a ≡ false
or_left true b e = absurd cc
or_left false b e = refl

or_right : (a b : Bool) → (a || b) ≡ false → b ≡ false
or_right true b e = absurd cc
or_right false b e = e

shown_item : (row : Row) (i : Item ℕ) → is_aggregate i ≡ false → value_at row (shown_ordinal i) ≡ shown_value row i
shown_item row (Column n) e = refl
shown_item row CountRows e = absurd cc
shown_item row (Count n) e = absurd cc
shown_item row (Sum n) e = absurd cc
shown_item row (Min n) e = absurd cc
shown_item row (Max n) e = absurd cc

shown_items : (row : Row) (items : List (Item ℕ)) → list_any is_aggregate items ≡ false
    → map (value_at row) (map shown_ordinal items) ≡ map (shown_value row) items
shown_items row [] e = refl
shown_items row (i ∷ items) e =
    rw (shown_item row i (or_left _ _ e), shown_items row items (or_right (is_aggregate i) _ e)) refl

-- the rows as the query shows them, from their keyed forms
shown_rows : (q : Query) → list_any is_aggregate q.items ≡ false → (rows : List Row)
    → map (columns_of (map shown_ordinal q.items)) rows ≡ map (λ r. r.0) (map (keyed_row q) rows)
shown_rows q e [] = refl
shown_rows q e (row ∷ rows) = rw (shown_items row q.items e, shown_rows q e rows) refl

pub sliced_map : {X Y : Type 0} (f : X → Y) (limit : Option LimitClause) (xs : List X) → sliced limit (map f xs) ≡ map f (sliced limit xs)
sliced_map f None xs = refl
sliced_map f (Some l) xs = ap (take l.count) (drop-map f l.offset xs) ∙ take-map f l.count (drop l.offset xs)

sorted_map : (f : Row → Keyed) (keys order : List (Key ℕ)) → ((a b : Row) → keys_cmp order (f a).1 (f b).1 ≡ row_cmp keys a b)
    → (rows : List Row) → IsSorted (row_cmp keys) rows → IsSorted (λ (a : Keyed) (b : Keyed). keys_cmp order a.1 b.1) (map f rows)
sorted_map f keys order same rows sorted k d low within =
    let len = length-map rows f in
    let next : k + 1 < length rows = omega (arith, len, within) in
    let this : k < length rows = omega (arith, next) in
    rw (get_or-map f rows (k + 1) [] d next, get_or-map f rows k [] d this) (ap is_lt (same (get_or rows (k + 1) []) (get_or rows k [])) ∙ sorted k [] low next)

-- the bag of a query's whole answer
pub kept_plain : (q : Query) (rows : List Row) → is_aggregated q ≡ false → kept_rows q rows ≡ map (keyed_row q) (filter (is_kept q.filter) rows)
kept_plain q rows plain = rw plain refl

pub kept_grouped : (q : Query) (rows : List Row) → is_aggregated q ≡ true → kept_rows q rows ≡ keyed_groups q (filter (is_kept q.filter) rows)
kept_grouped q rows grouped = rw grouped refl

plain_answer : (q : Query) (rows kept list : List Row) → is_aggregated q ≡ false → kept ≡ filter (is_kept q.filter) rows
    → IsSortedSlice q.order_by q.limit (map shown_ordinal q.items) kept list → IsAnswer q rows list
plain_answer q rows kept list plain is (sorted, permuted, ascending, shown) =
    let items = or_left _ _ plain in (
      map (keyed_row q) sorted,
      subst (λ ks. IsPermutation ks (map (keyed_row q) sorted)) (ap (map (keyed_row q)) is ∙ sym (kept_plain q rows plain))
          (IsPermutation-map (keyed_row q) kept sorted permuted),
      sorted_map (keyed_row q) q.order_by q.order_by (λ a b. refl) sorted ascending,
      shown ∙ shown_rows q items (sliced q.limit sorted) ∙ ap (map (λ (r : Keyed). r.0)) (sym (sliced_map (keyed_row q) q.limit sorted)),
    )

pub group_answer : (q : Query) (rows kept list : List Row) → is_aggregated q ≡ true → kept ≡ filter (is_kept q.filter) rows
    → IsSortedSlice (group_order q) q.limit (group_columns q) (grouped_rows q kept) list → IsAnswer q rows list
group_answer q rows kept list grouped is (sorted, permuted, ascending, shown) = (
  map (keyed_wide q) sorted,
  subst (λ ks. IsPermutation ks (map (keyed_wide q) sorted)) (keyed_is q kept ∙ ap (keyed_groups q) is ∙ sym (kept_grouped q rows grouped))
      (IsPermutation-map (keyed_wide q) (grouped_rows q kept) sorted permuted),
  sorted_map (keyed_wide q) (group_order q) q.order_by
      (λ a b. sym (same_cmp q (sort_values (group_order q) a) (sort_values (group_order q) b))) sorted ascending,
  shown ∙ sym (map_both (λ (r : Keyed). r.0) (keyed_wide q) (columns_of (group_columns q)) (λ row. refl) (sliced q.limit sorted))
      ∙ ap (map (λ (r : Keyed). r.0)) (sym (sliced_map (keyed_wide q) q.limit sorted)),
)

pub answered : {E : Type 0} (q : Query) (rows kept : List Row) (result : Result (List Row) E) → is_aggregated q ≡ false → kept ≡ filter (is_kept q.filter) rows
    → IfOk result (IsSortedSlice q.order_by q.limit (map shown_ordinal q.items) kept) → IfOk result (IsAnswer q rows)
answered q rows kept (Ok list) plain is shown = plain_answer q rows kept list plain is shown
answered q rows kept (Err e) plain is shown = cc

pub groups_answered : {E : Type 0} (q : Query) (rows kept : List Row) (result : Result (List Row) E) → is_aggregated q ≡ true → kept ≡ filter (is_kept q.filter) rows
    → IfOk result (IsSortedSlice (group_order q) q.limit (group_columns q) (grouped_rows q kept)) → IfOk result (IsAnswer q rows)
groups_answered q rows kept (Ok list) grouped is shown = group_answer q rows kept list grouped is shown
groups_answered q rows kept (Err e) grouped is shown = cc
