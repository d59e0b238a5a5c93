-- The rows of groups that are made of parts are what a query shows of its groups.
use Rattle.std.proofs.Common.{◌≡◌, ℕ, zero, suc, ◌+◌, ◌≤◌, Bool, true, false, cond, List, [], ◌∷◌, ◌++◌, length, map, filter, take, drop, pos, ◌+ℤ◌, refl, sym, ap, ◌∙◌, arith, ◌==◌, length-append}
use Rattle.std.specs.Prelude.{not, ◌||◌}
use Rattle.std.specs.Ordering.{ordering_then}
use Rattle.std.specs.List.{AllByRecursion}
use Rattle.std.proofs.Math.Dec.{eqb-suc-zero}
use Rattle.std.proofs.lemmas.Bool.{eqb-true}
use Rattle.std.proofs.lemmas.List.{length-map}
use Rattle.vt_value.specs.declared.value.Value.{Value}
use Rattle.vt_value.specs.declared.value.Value.TheVariants.{Null, Int}
use Rattle.vt_value.specs.Values.{Row, value_at, is_null, same_row}
use Rattle.sql_tree.specs.declared.Item.{Item}
use Rattle.sql_tree.specs.declared.Item.TheVariants.{Column, CountRows, Count, Sum, Min, Max}
use Rattle.sql_tree.specs.declared.Key.{Key}
use Rattle.aggregate.specs.Orders.{value_order, keys_cmp, sort_values}
use Rattle.aggregate.specs.Slices.{columns_of}
use Rattle.aggregate.proofs.SliceLemmas.{drop_next}
use Rattle.aggregate.specs.Aggregates.{present, values_of, total}
use Rattle.aggregate.specs.Groups.{distinct, joined_part, joined_parts, of_group, group_keys, joined_rows}
use Rattle.aggregate.proofs.PartsOfRows.{first_past}
use Rattle.vschema.specs.declared.schema.Query.{Query}
use Rattle.vschema.specs.Checks.{is_aggregate, has_number}
use Rattle.sql_eval.specs.Groups.{group_values, group_rows, group_value, item_value}
use Rattle.sql_eval.specs.Grouping.{shown_ordinal, aggregates_of, group_ordinal_from, item_ordinals, placed_key, after_groups, group_columns, group_order}
use Rattle.sql_eval.specs.inner.Parts.{one_of, row_part, part_row, grouped_rows}
use Rattle.sql_eval.specs.Queries.{Keyed, keyed_group, keyed_groups}

pub map_both : {X Y Z : Type 0} (f : Y → Z) (g : X → Y) (h : X → Z) → ((x : X) → f (g x) ≡ h x) → (xs : List X) → map f (map g xs) ≡ map h xs
map_both f g h same [] = refl
map_both f g h same (x ∷ xs) = λ i. same x i ∷ map_both f g h same xs i

pub at_drop : (row : Row) (n : ℕ) (v : Value) (rest : Row) → drop n row ≡ v ∷ rest → value_at row n ≡ v
at_drop row n v rest e = sym (first_past n row) ∙ ap (λ r. value_at r 0) e

-- nothing stands after the last value
at_end : (row : Row) (n : ℕ) → length row ≤ n → value_at row n ≡ Null
at_end [] zero h = refl
at_end [] (suc n) h = refl
at_end (v ∷ row) zero h = absurd (omega (arith, h))
at_end (v ∷ row) (suc n) h = at_end row n (omega (arith, h))

-- the parts of columns that stand in a list after some place, joined
pub joined_each : {X : Type 0} (aggregates : List (Item ℕ)) (n : ℕ) (f : X → Row) (g : X → Item ℕ → Value) (xs : List X) → ((x : X) → drop n (f x) ≡ map (g x) aggregates)
    → joined_parts aggregates n (map f xs) ≡ map (λ a. joined_part a (map (λ x. g x a) xs)) aggregates
joined_each [] n f g xs h = refl
joined_each (a ∷ aggregates) n f g xs h =
    let here : map (λ r. value_at r n) (map f xs) ≡ map (λ x. g x a) xs =
    map_both (λ r. value_at r n) f (λ x. g x a) (λ x. at_drop (f x) n (g x a) (map (g x) aggregates) (h x)) xs
    in
    λ i. joined_part a (here i) ∷ joined_each aggregates (n + 1) f g xs (λ x. drop_next (f x) (map (g x) aggregates) (g x a) n (h x)) i

pub ones : (rows : List Row) → total (present (map (λ row. Int (pos 1)) rows)) ≡ pos (length rows)
ones [] = refl
ones (row ∷ rows) = ap (λ n. pos 1 +ℤ n) (ones rows) ∙ ap pos (omega arith)

counted : (c : ℕ) (rows : List Row) → total (present (map (λ row. one_of (value_at row c)) rows)) ≡ pos (length (values_of c rows))
counted c [] = refl
counted c (row ∷ rows) = by (value_at row c) (is_null (value_at row c)) refl (counted c rows)
  where
    by : (v : Value) (b : Bool) → is_null v ≡ b
        → total (present (map (λ r. one_of (value_at r c)) rows)) ≡ pos (length (values_of c rows))
        → total (present (cond b (Int (pos 0)) (Int (pos 1)) ∷ map (λ r. one_of (value_at r c)) rows)) ≡ pos (length (cond (not b) (v ∷ values_of c rows) (values_of c rows)))
    by v true e rest = ap (λ n. pos 0 +ℤ n) rest ∙ ap pos (omega arith)
    by v false e rest = ap (λ n. pos 1 +ℤ n) rest ∙ ap pos (omega arith)

-- the rows' parts, joined, are what the aggregate gives over the rows
own_joined : (columns : List ℕ) (values : Row) (rows : List Row) (a : Item ℕ) → is_aggregate a ≡ true
    → joined_part a (map (λ row. row_part row a) rows) ≡ item_value columns values rows a
own_joined columns values rows (Column c) e = cc
own_joined columns values rows CountRows e = ap Int (ones rows)
own_joined columns values rows (Count c) e = ap Int (counted c rows)
own_joined columns values rows (Sum c) e = refl
own_joined columns values rows (Min c) e = refl
own_joined columns values rows (Max c) e = refl

all_own : (columns : List ℕ) (values : Row) (rows : List Row) (items : List (Item ℕ))
    → map (λ a. joined_part a (map (λ row. row_part row a) rows)) (aggregates_of items) ≡ map (item_value columns values rows) (aggregates_of items)
all_own columns values rows [] = refl
all_own columns values rows (i ∷ items) = by (is_aggregate i) refl (all_own columns values rows items)
  where
    by : (b : Bool) → is_aggregate i ≡ b
        → map (λ a. joined_part a (map (λ row. row_part row a) rows)) (aggregates_of items) ≡ map (item_value columns values rows) (aggregates_of items)
        → map (λ a. joined_part a (map (λ row. row_part row a) rows)) (cond b (i ∷ aggregates_of items) (aggregates_of items))
        ≡ map (item_value columns values rows) (cond b (i ∷ aggregates_of items) (aggregates_of items))
    by true e rest = λ j. own_joined columns values rows i e j ∷ rest j
    by false e rest = rest

-- a list that begins with as many values as there are columns
pub front : {X : Type 0} (f : X → Value) (xs : List X) (rest : Row) → take (length xs) (map f xs ++ rest) ≡ map f xs
front f [] rest = refl
front f (x ∷ xs) rest = ap (λ l. f x ∷ l) (front f xs rest)

pub back : {X : Type 0} (f : X → Value) (xs : List X) (rest : Row) → drop (length xs) (map f xs ++ rest) ≡ rest
back f [] rest = refl
back f (x ∷ xs) rest = back f xs rest

-- these are the values of some row
pub record IsKey (columns : List ℕ) (values : Row) : Type 0 where
  pub row : Row
  pub is : values ≡ columns_of columns row

pub filter_all : {X : Type 0} (P : X → Type 0) (p : X → Bool) (xs : List X) → AllByRecursion P xs → AllByRecursion P (filter p xs)
filter_all P p [] all = tt
filter_all P p (x ∷ xs) all = by (p x) (filter_all P p xs all.1)
  where
    by : (b : Bool) → AllByRecursion P (filter p xs) → AllByRecursion P (cond b (x ∷ filter p xs) (filter p xs))
    by true rest = (all.0, rest)
    by false rest = rest

pub distinct_all : (P : Row → Type 0) (keys : List Row) → AllByRecursion P keys → AllByRecursion P (distinct keys)
distinct_all P [] all = tt
distinct_all P (k ∷ keys) all = (all.0, filter_all P (λ other. not (same_row k other)) (distinct keys) (distinct_all P keys all.1))

mapped_keys : (columns : List ℕ) (rows : List Row) → AllByRecursion (IsKey columns) (map (columns_of columns) rows)
mapped_keys columns [] = tt
mapped_keys columns (row ∷ rows) = (record { row = row; is = refl }, mapped_keys columns rows)

pub all_keys : (columns : List ℕ) (rows : List Row) → AllByRecursion (IsKey columns) (group_values columns rows)
all_keys [] rows = (record { row = []; is = refl }, tt)
all_keys (c ∷ columns) rows = distinct_all (IsKey (c ∷ columns)) (map (columns_of (c ∷ columns)) rows) (mapped_keys (c ∷ columns) rows)

pub key_length : (columns : List ℕ) (values : Row) → IsKey columns values → length values ≡ length columns
key_length columns values k = ap length k.is ∙ length-map columns (value_at k.row)

-- the value of a group in a column of GROUP BY is that of each of its rows
pub shares : (columns : List ℕ) (row : Row) (c : ℕ) → has_number columns c ≡ true → group_value columns (columns_of columns row) c ≡ value_at row c
shares [] row c h = cc
shares (g ∷ columns) row c h = by (g == c) refl (shares columns row c) h
  where
    by : (b : Bool) → (g == c) ≡ b → (has_number columns c ≡ true → group_value columns (columns_of columns row) c ≡ value_at row c)
        → (b || has_number columns c) ≡ true → cond b (value_at row g) (group_value columns (columns_of columns row) c) ≡ value_at row c
    by true e rest h = ap (value_at row) (eqb-true g c e)
    by false e rest h = rest h

module _ (columns : List ℕ) (items : List (Item ℕ)) where
  abbrev part : Row → Row
  part row = part_row columns (aggregates_of items) row

  -- the row of the group with these values
  abbrev pub group_row : List Row → Row → Row
  group_row rows values = values ++ map (item_value columns values (group_rows columns values rows)) (aggregates_of items)

  own_group : (values : Row) (rows : List Row) → of_group (length columns) values (map part rows) ≡ map part (group_rows columns values rows)
  own_group values [] = refl
  own_group values (row ∷ rows) =
      (λ i. cond (same_row values (front (value_at row) columns (map (row_part row) (aggregates_of items)) i)) (part row ∷ own_group values rows i) (own_group values rows i))
      ∙ by (same_row values (columns_of columns row))
    where
      by : (b : Bool) → cond b (part row ∷ map part (group_rows columns values rows)) (map part (group_rows columns values rows))
          ≡ map part (cond b (row ∷ group_rows columns values rows) (group_rows columns values rows))
      by true = refl
      by false = refl

  parts_of_group : (values : Row) (rows : List Row) → joined_parts (aggregates_of items) (length columns) (of_group (length columns) values (map part rows))
      ≡ map (item_value columns values (group_rows columns values rows)) (aggregates_of items)
  parts_of_group values rows =
      ap (joined_parts (aggregates_of items) (length columns)) (own_group values rows)
      ∙ joined_each (aggregates_of items) (length columns) part row_part (group_rows columns values rows)
      (λ row. back (value_at row) columns (map (row_part row) (aggregates_of items)))
      ∙ all_own columns values (group_rows columns values rows) items

same_keys : (columns : List ℕ) (items : List (Item ℕ)) (rows : List Row) → group_keys (length columns) (map (part_row columns (aggregates_of items)) rows) ≡ group_values columns rows
same_keys [] items rows = refl
same_keys (c ∷ columns) items rows =
    let here = map_both (take (length (c ∷ columns))) (part_row (c ∷ columns) (aggregates_of items)) (columns_of (c ∷ columns))
    (λ row. front (value_at row) (c ∷ columns) (map (row_part row) (aggregates_of items))) rows in
    rw eqb-suc-zero (ap distinct here)

-- the groups that are made of the rows' parts
pub grouped_is : (columns : List ℕ) (items : List (Item ℕ)) (rows : List Row)
    → joined_rows (aggregates_of items) (length columns) (map (part_row columns (aggregates_of items)) rows) ≡ map (group_row columns items rows) (group_values columns rows)
grouped_is columns items rows =
    ap (map (λ key. key ++ joined_parts (aggregates_of items) (length columns) (of_group (length columns) key (map (part_row columns (aggregates_of items)) rows)))) (same_keys columns items rows)
    ∙ each (group_values columns rows)
  where
    each : (keys : List Row) → map (λ key. key ++ joined_parts (aggregates_of items) (length columns) (of_group (length columns) key (map (part_row columns (aggregates_of items)) rows))) keys
        ≡ map (group_row columns items rows) keys
    each [] = refl
    each (key ∷ keys) = λ i. (key ++ parts_of_group columns items key rows i) ∷ each keys i

-- a column of GROUP BY in a row that has its values from a place on
ordinal_value : (wide : Row) (columns : List ℕ) (values rest : Row) (n other c : ℕ) → length values ≡ length columns → drop n wide ≡ values ++ rest → length wide ≤ other
    → value_at wide (group_ordinal_from n other columns c) ≡ group_value columns values c
ordinal_value wide [] values rest n other c same at far = at_end wide other far
ordinal_value wide (g ∷ columns) [] rest n other c same at far = cc
ordinal_value wide (g ∷ columns) (v ∷ values) rest n other c same at far = by (g == c) (ordinal_value wide columns values rest (n + 1) other c (omega (arith, same)) (drop_next wide (values ++ rest) v n at) far)
  where
    by : (b : Bool) → value_at wide (group_ordinal_from (n + 1) other columns c) ≡ group_value columns values c
        → value_at wide (cond b n (group_ordinal_from (n + 1) other columns c)) ≡ cond b v (group_value columns values c)
    by true later = at_drop wide n v (values ++ rest) at
    by false later = later

plain_item : (columns : List ℕ) (values : Row) (rows : List Row) (i : Item ℕ) → is_aggregate i ≡ false → group_value columns values (shown_ordinal i) ≡ item_value columns values rows i
plain_item columns values rows (Column c) e = refl
plain_item columns values rows CountRows e = cc
plain_item columns values rows (Count c) e = cc
plain_item columns values rows (Sum c) e = cc
plain_item columns values rows (Min c) e = cc
plain_item columns values rows (Max c) e = cc

module _ (columns : List ℕ) (values : Row) (rows : List Row) (wide : Row) (other : ℕ)
    (plain : (c : ℕ) → value_at wide (group_ordinal_from 0 other columns c) ≡ group_value columns values c) where
  items_at : (items : List (Item ℕ)) (n : ℕ) → drop n wide ≡ map (item_value columns values rows) (aggregates_of items)
      → map (value_at wide) (item_ordinals other columns n items) ≡ map (item_value columns values rows) items
  items_at [] n at = refl
  items_at (i ∷ items) n at = by (is_aggregate i) refl (items_at items) at
    where
      by : (b : Bool) → is_aggregate i ≡ b
          → ((m : ℕ) → drop m wide ≡ map (item_value columns values rows) (aggregates_of items)
          → map (value_at wide) (item_ordinals other columns m items) ≡ map (item_value columns values rows) items)
          → drop n wide ≡ map (item_value columns values rows) (cond b (i ∷ aggregates_of items) (aggregates_of items))
          → map (value_at wide) (cond b (n ∷ item_ordinals other columns (n + 1) items) (group_ordinal_from 0 other columns (shown_ordinal i) ∷ item_ordinals other columns n items))
          ≡ item_value columns values rows i ∷ map (item_value columns values rows) items
      by true e rest at =
          let first = at_drop wide n (item_value columns values rows i) (map (item_value columns values rows) (aggregates_of items)) at in
          let others = rest (n + 1) (drop_next wide (map (item_value columns values rows) (aggregates_of items)) (item_value columns values rows i) n at) in
          λ j. first j ∷ others j
      by false e rest at =
          let first = plain (shown_ordinal i) ∙ plain_item columns values rows i e in
          let others = rest n at in
          λ j. first j ∷ others j

  keys_at : (keys : List (Key ℕ)) → sort_values (map (placed_key other columns) keys) wide ≡ map (λ k. group_value columns values k.column) keys
  keys_at [] = refl
  keys_at (k ∷ keys) = λ j. plain k.column j ∷ keys_at keys j

pub filter_short : {X : Type 0} (p : X → Bool) (xs : List X) → length (filter p xs) ≤ length xs
filter_short p [] = omega arith
filter_short p (x ∷ xs) = by (p x) (filter_short p xs)
  where
    by : (b : Bool) → length (filter p xs) ≤ length xs → length (cond b (x ∷ filter p xs) (filter p xs)) ≤ length (x ∷ xs)
    by true h = omega (arith, h)
    by false h = omega (arith, h)

pub drop_join : {X : Type 0} (n : ℕ) (xs ys : List X) → length xs ≡ n → drop n (xs ++ ys) ≡ ys
drop_join zero [] ys e = refl
drop_join (suc n) [] ys e = cc
drop_join zero (x ∷ xs) ys e = cc
drop_join (suc n) (x ∷ xs) ys e = drop_join n xs ys (omega (arith, e))

pub take_join : {X : Type 0} (n : ℕ) (xs ys : List X) → length xs ≡ n → take n (xs ++ ys) ≡ xs
take_join zero [] ys e = refl
take_join (suc n) [] ys e = cc
take_join zero (x ∷ xs) ys e = cc
take_join (suc n) (x ∷ xs) ys e = ap (λ l. x ∷ l) (take_join n xs ys (omega (arith, e)))

module _ (q : Query) where
  -- a group's row as the query shows it
  abbrev pub keyed_wide : Row → Keyed
  keyed_wide row = (columns_of (group_columns q) row, sort_values (group_order q) row)

  keyed_one : (rows : List Row) (values : Row) → IsKey q.group_by values → keyed_wide (group_row q.group_by q.items rows values) ≡ keyed_group q rows values
  keyed_one rows values key =
      let long = key_length q.group_by values key in
      let group = group_rows q.group_by values rows in
      let parts = map (item_value q.group_by values group) (aggregates_of q.items) in
      let wide = values ++ parts in
      let far : length wide ≤ after_groups q = omega (arith, length-append values parts, length-map (aggregates_of q.items) (item_value q.group_by values group), filter_short is_aggregate q.items, long) in
      let plain : (c : ℕ) → value_at wide (group_ordinal_from 0 (after_groups q) q.group_by c) ≡ group_value q.group_by values c =
      λ c. ordinal_value wide q.group_by values parts 0 (after_groups q) c long refl far in
      let shown = items_at q.group_by values group wide (after_groups q) plain q.items (length q.group_by) (drop_join (length q.group_by) values parts long) in
      let keys = keys_at q.group_by values group wide (after_groups q) plain q.order_by in
      λ i. (shown i, keys i)

  keyed_each : (rows keys : List Row) → AllByRecursion (IsKey q.group_by) keys → map keyed_wide (map (group_row q.group_by q.items rows) keys) ≡ map (keyed_group q rows) keys
  keyed_each rows [] all = refl
  keyed_each rows (key ∷ keys) all = λ i. keyed_one rows key all.0 i ∷ keyed_each rows keys all.1 i

  -- the rows of the groups, as they are shown, are the groups
  pub keyed_is : (rows : List Row) → map keyed_wide (grouped_rows q rows) ≡ keyed_groups q rows
  keyed_is rows = ap (map keyed_wide) (grouped_is q.group_by q.items rows) ∙ keyed_each rows (group_values q.group_by rows) (all_keys q.group_by rows)

  -- they are sorted in the same way
  same_order : (keys : List (Key ℕ)) (as' bs : List Value) → keys_cmp (map (placed_key (after_groups q) q.group_by) keys) as' bs ≡ keys_cmp keys as' bs
  same_order [] as' bs = refl
  same_order (k ∷ keys) as' bs = ap (ordering_then (value_order k (value_at as' 0) (value_at bs 0))) (same_order keys (drop 1 as') (drop 1 bs))

  pub same_cmp : (as' bs : List Value) → keys_cmp (group_order q) as' bs ≡ keys_cmp q.order_by as' bs
  same_cmp = same_order q.order_by
