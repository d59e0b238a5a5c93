-- The least value of rows that are in order, or the greatest, is the first.
use Rattle.std.proofs.Common.{◌≡◌, ℕ, suc, ◌+◌, ◌<◌, Bool, true, false, cond, not, ◌&&◌, ◌==◌, List, [], ◌∷◌, ◌++◌, length, map, filter, take, get_or, refl, sym, ap, subst, ◌∙◌, arith}
use Rattle.std.specs.Prelude.{IsSorted}
use Rattle.std.specs.List.{list_all}
use Rattle.std.proofs.lemmas.Bool.{eqb-true, false≢true}
use Rattle.std.proofs.lemmas.List.{take_more, map-append}
use Rattle.std.proofs.lemmas.List.Kept.{IsSortedBy-filter}
use Rattle.std.proofs.lemmas.List.Sorted.{ranks_by}
use Rattle.std.specs.Ordering.{is_lt, ordering_reverse, ordering_then}
use Rattle.std.specs.declared.cmp.Ordering.{Ordering}
use Rattle.std.specs.declared.cmp.Ordering.TheVariants.{Less, Equal, Greater}
use Rattle.vt_value.specs.declared.value.Value.{Value}
use Rattle.vt_value.specs.declared.value.Value.TheVariants.{Null}
use Rattle.vt_value.specs.Values.{Row, value_at, value_cmp, is_null}
use Rattle.sql_tree.specs.declared.Item.{Item}
use Rattle.sql_tree.specs.declared.Item.TheVariants.{Column, CountRows, Count, Sum, Min, Max}
use Rattle.sql_tree.specs.declared.Key.{Key}
use Rattle.aggregate.specs.Aggregates.{values_of, lesser, greater, least_of, greatest_of}
use Rattle.aggregate.specs.Orders.{value_order, sort_values, row_cmp}
use Rattle.aggregate.proofs.OrderLemmas.{value_cmp-total, keys_cmp-total}
use Rattle.vschema.specs.declared.schema.Query.{Query}
use Rattle.sql_eval.specs.Extremes.{is_extreme, IsExtreme}
use Rattle.sql_eval.specs.Grouping.{aggregates_of}
use Rattle.sql_eval.specs.inner.Firsts.{first_of}
use Rattle.sql_eval.specs.inner.Parts.{grouped_rows}
use Rattle.sql_eval.specs.inner.Totals.{total_of, totals_of}
use Rattle.sql_eval.proofs.Counted.{together_is}

abbrev has_value : ℕ → Row → Bool
has_value c row = not (is_null (value_at row c))

values_kept : (c : ℕ) (rows : List Row) → values_of c rows ≡ map (λ row. value_at row c) (filter (has_value c) rows)
values_kept c [] = refl
values_kept c (row ∷ rows) = by (has_value c row) (values_kept c rows)
  where
    by : (b : Bool) → values_of c rows ≡ map (λ r. value_at r c) (filter (has_value c) rows)
        → cond b (value_at row c ∷ values_of c rows) (values_of c rows) ≡ map (λ r. value_at r c) (cond b (row ∷ filter (has_value c) rows) (filter (has_value c) rows))
    by true ih = ap (λ (l : List Value). value_at row c ∷ l) ih
    by false ih = ih

alone : (o : Ordering) → is_lt (ordering_then o Equal) ≡ is_lt o
alone Less = refl
alone Equal = refl
alone Greater = refl

module _ (k : Key ℕ) where
  abbrev at : Row → Value
  at row = value_at row k.column

  tail : (y : Row) (ys : List Row) → IsSorted (row_cmp (k ∷ [])) (y ∷ ys) → IsSorted (row_cmp (k ∷ [])) ys
  tail y ys h = λ n d low within.
      (let e : suc n + 1 ≡ suc (n + 1) = omega arith in
      subst (λ (m : ℕ). is_lt (row_cmp (k ∷ []) (get_or (y ∷ ys) m d) (get_or ys n d)) ≡ false) e (h (suc n) d (omega arith) (omega (arith, within))))

  next : (y z : Row) (ys : List Row) → IsSorted (row_cmp (k ∷ [])) (y ∷ z ∷ ys) → is_lt (value_order k (at z) (at y)) ≡ false
  next y z ys h = sym (alone (value_order k (at z) (at y))) ∙ h 0 y (omega arith) (omega arith)

  ascending : k.descending ≡ false → (a b : Value) → is_lt (value_order k a b) ≡ false → is_lt (value_cmp a b) ≡ false
  ascending e a b h = sym (ap (λ t. is_lt (cond t (ordering_reverse (value_cmp a b)) (value_cmp a b))) e) ∙ h

  descending : k.descending ≡ true → (a b : Value) → is_lt (value_order k a b) ≡ false → is_lt (value_cmp b a) ≡ false
  descending e a b h =
      ap is_lt (value_cmp-total.antisymm b a) ∙ sym (ap (λ t. is_lt (cond t (ordering_reverse (value_cmp a b)) (value_cmp a b))) e) ∙ h

  least : k.descending ≡ false → (ys : List Row) → IsSorted (row_cmp (k ∷ [])) ys → least_of (map at ys) ≡ first_of (map at ys)
  least e [] h = refl
  least e (y ∷ []) h = refl
  least e (y ∷ z ∷ ys) h =
      ap (lesser (at y)) (least e (z ∷ ys) (tail y (z ∷ ys) h)) ∙ ap (λ t. cond t (at z) (at y)) (ascending e (at z) (at y) (next y z ys h))

  greatest : k.descending ≡ true → (ys : List Row) → IsSorted (row_cmp (k ∷ [])) ys → greatest_of (map at ys) ≡ first_of (map at ys)
  greatest e [] h = refl
  greatest e (y ∷ []) h = refl
  greatest e (y ∷ z ∷ ys) h =
      ap (greater (at y)) (greatest e (z ∷ ys) (tail y (z ∷ ys) h)) ∙ ap (λ t. cond t (at z) (at y)) (descending e (at z) (at y) (next y z ys h))

  module _ (rows : List Row) (sorted : IsSorted (row_cmp (k ∷ [])) rows) where
    kept_sorted : IsSorted (row_cmp (k ∷ [])) (filter (has_value k.column) rows)
    kept_sorted = IsSortedBy-filter (λ (a b : Row). is_lt (row_cmp (k ∷ []) a b)) (ranks_by (keys_cmp-total (k ∷ [])) (sort_values (k ∷ []))) (has_value k.column) rows sorted

    least_first : k.descending ≡ false → least_of (values_of k.column rows) ≡ first_of (values_of k.column rows)
    least_first e = ap least_of (values_kept k.column rows) ∙ least e (filter (has_value k.column) rows) kept_sorted ∙ sym (ap first_of (values_kept k.column rows))

    greatest_first : k.descending ≡ true → greatest_of (values_of k.column rows) ≡ first_of (values_of k.column rows)
    greatest_first e = ap greatest_of (values_kept k.column rows) ∙ greatest e (filter (has_value k.column) rows) kept_sorted ∙ sym (ap first_of (values_kept k.column rows))

    left : (a b : Bool) → (a && b) ≡ true → a ≡ true
    left true b e = refl
    left false b e = e

    right : (a b : Bool) → (a && b) ≡ true → b ≡ true
    right true b e = e
    right false b e = absurd (false≢true e)

    not_true : (b : Bool) → not b ≡ true → b ≡ false
    not_true true e = sym e
    not_true false e = refl

    one : (i : Item ℕ) → is_extreme k i ≡ true → first_of (values_of k.column rows) ≡ total_of rows i
    one (Min c) e =
        let same = eqb-true c k.column (left (c == k.column) (not k.descending) e) in
        sym (ap (λ n. least_of (values_of n rows)) same ∙ least_first (not_true k.descending (right (c == k.column) (not k.descending) e)))
    one (Max c) e =
        let same = eqb-true c k.column (left (c == k.column) k.descending e) in
        sym (ap (λ n. greatest_of (values_of n rows)) same ∙ greatest_first (right (c == k.column) k.descending e))
    one (Column c) e = absurd (false≢true e)
    one CountRows e = absurd (false≢true e)
    one (Count c) e = absurd (false≢true e)
    one (Sum c) e = absurd (false≢true e)

    each : (items : List (Item ℕ)) → list_all (is_extreme k) items ≡ true → map (λ i. first_of (values_of k.column rows)) items ≡ totals_of items rows
    each [] e = refl
    each (i ∷ items) e =
        (λ j. one i (left (is_extreme k i) (list_all (is_extreme k) items) e) j ∷ each items (right (is_extreme k i) (list_all (is_extreme k) items) e) j)

    all_extremes : (items : List (Item ℕ)) → list_all (is_extreme k) items ≡ true → aggregates_of items ≡ items
    all_extremes [] e = refl
    all_extremes (Min c ∷ items) e = ap (λ (l : List (Item ℕ)). Min c ∷ l) (all_extremes items (right (is_extreme k (Min c)) (list_all (is_extreme k) items) e))
    all_extremes (Max c ∷ items) e = ap (λ (l : List (Item ℕ)). Max c ∷ l) (all_extremes items (right (is_extreme k (Max c)) (list_all (is_extreme k) items) e))
    all_extremes (Column c ∷ items) e = absurd (false≢true e)
    all_extremes (CountRows ∷ items) e = absurd (false≢true e)
    all_extremes (Count c ∷ items) e = absurd (false≢true e)
    all_extremes (Sum c ∷ items) e = absurd (false≢true e)

    -- the one group of a query that asks for nothing else
    pub extreme_groups : (q : Query) (v : Value) → IsExtreme k q → v ≡ first_of (values_of k.column rows) → map (λ i. v) q.items ∷ [] ≡ grouped_rows q rows
    extreme_groups q v h is =
        ap (λ z. z ∷ [])
        (ap (λ (x : Value). map (λ i. x) q.items) is ∙ each q.items h.2 ∙ ap (λ (l : List (Item ℕ)). totals_of l rows) (sym (all_extremes q.items h.2)))
        ∙ together_is q.group_by q.items rows h.0

-- ---- one row more is passed over, or has the first value

pub null_passed : (c : ℕ) (row : Row) (rest all : List Row) → all ≡ row ∷ rest → value_at row c ≡ Null → values_of c rest ≡ values_of c all
null_passed c row rest all is null =
    sym (ap (values_of c) is ∙ ap (λ (v : Value). cond (not (is_null v)) (v ∷ values_of c rest) (values_of c rest)) null)

pub first_found : (c : ℕ) (row : Row) (rest all : List Row) → all ≡ row ∷ rest → is_null (value_at row c) ≡ false → value_at row c ≡ first_of (values_of c all)
first_found c row rest all is some =
    sym (ap (λ (l : List Row). first_of (values_of c l)) is ∙ ap (λ b. first_of (cond (not b) (value_at row c ∷ values_of c rest) (values_of c rest))) some)

pub values_more : (items : List (Item ℕ)) (i : ℕ) (v : Value) → i < length items → map (λ item. v) (take (i + 1) items) ≡ map (λ item. v) (take i items) ++ v ∷ []
values_more items i v within =
    ap (map (λ (item : Item ℕ). v)) (take_more items i CountRows within) ∙ map-append (λ (item : Item ℕ). v) (take i items) (get_or items i CountRows ∷ [])
