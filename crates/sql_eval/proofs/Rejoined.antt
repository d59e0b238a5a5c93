-- Groups that are joined again: of several lists together, and in another order.
use Rattle.std.proofs.Common.{◌≡◌, ℕ, zero, suc, ◌+◌, ◌≤◌, Bool, true, false, cond, List, [], ◌∷◌, ◌++◌, length, map, filter, flat_map, take, drop, IsPermutation, refl, sym, ap, subst, ◌∙◌, arith}
use Rattle.std.specs.Prelude.{◌||◌}
use Rattle.std.specs.List.{AllByRecursion, IsDistinct}
use Rattle.std.proofs.Math.Dec.{eqb-suc-zero}
use Rattle.std.proofs.lemmas.List.{map-append, length-take}
use Rattle.std.proofs.lemmas.List.Elements.{filter-append}
use Rattle.std.proofs.lemmas.List.Sorted.{IsPermutation-refl, IsPermutation-sym, IsPermutation-map}
use Rattle.vt_value.specs.Values.{Row, value_at, same_row}
use Rattle.sql_tree.specs.declared.Item.{Item}
use Rattle.aggregate.proofs.SliceLemmas.{drop_next}
use Rattle.aggregate.specs.inner.Grouping.{has_row}
use Rattle.aggregate.specs.Groups.{distinct, joined_part, joined_parts, of_group, group_keys, joined_rows}
use Rattle.aggregate.proofs.DistinctLemmas.{none_of, has_distinct}
use Rattle.aggregate.proofs.PartsOfRows.{column_permuted}
use Rattle.aggregate.proofs.SplitLemmas.{together, joined_again}
use Rattle.sql_eval.proofs.GroupLemmas.{at_drop, distinct_all, take_join, drop_join}
use Rattle.sql_eval.proofs.Permutations.{IsPermutation-filter}
use Rattle.sql_eval.proofs.DistinctRows.{distinct_is, distinct_parts, only, distinct_permuted}

-- the order of parts says nothing
parts_permuted : (aggregates : List (Item ℕ)) (n : ℕ) (xs ys : List Row) → IsPermutation xs ys → joined_parts aggregates n xs ≡ joined_parts aggregates n ys
parts_permuted [] n xs ys h = refl
parts_permuted (a ∷ aggregates) n xs ys h =
    let first = column_permuted a (map (λ r. value_at r n) xs) (map (λ r. value_at r n) ys) (IsPermutation-map (λ r. value_at r n) xs ys h) in
    λ i. first i ∷ parts_permuted aggregates (n + 1) xs ys h i

pub some_keys : (w : ℕ) (rows : List Row) → group_keys (suc w) rows ≡ distinct (map (take (suc w)) rows)
some_keys w rows = rw eqb-suc-zero refl

keys_permuted : (w : ℕ) (xs ys : List Row) → IsPermutation xs ys → IsPermutation (group_keys w xs) (group_keys w ys)
keys_permuted zero xs ys h = IsPermutation-refl ([] ∷ [])
keys_permuted (suc w) xs ys h =
    subst (λ l. IsPermutation l (group_keys (suc w) ys)) (sym (some_keys w xs))
    (subst (IsPermutation (distinct (map (take (suc w)) xs))) (sym (some_keys w ys)) (distinct_permuted _ _ (IsPermutation-map (take (suc w)) xs ys h)))

keys_distinct : (w : ℕ) (rows : List Row) → IsDistinct same_row (group_keys w rows)
keys_distinct zero rows = distinct_is ([] ∷ [])
keys_distinct (suc w) rows = subst (IsDistinct same_row) (sym (some_keys w rows)) (distinct_is (map (take (suc w)) rows))

-- rows that have at least as many values
abbrev pub AreWide : ℕ → List Row → Type 0
AreWide w rows = AllByRecursion (λ row. w ≤ length row) rows

taken : (w : ℕ) (rows : List Row) → AreWide w rows → AllByRecursion (λ key. length key ≡ w) (map (take w) rows)
taken w [] all = tt
taken w (row ∷ rows) all = (omega (arith, all.0, length-take w row), taken w rows all.1)

pub key_lengths : (w : ℕ) (rows : List Row) → AreWide w rows → AllByRecursion (λ key. length key ≡ w) (group_keys w rows)
key_lengths zero rows all = (refl, tt)
key_lengths (suc w) rows all =
    subst (AllByRecursion (λ key. length key ≡ suc w)) (sym (some_keys w rows)) (distinct_all (λ key. length key ≡ suc w) (map (take (suc w)) rows) (taken (suc w) rows all))

zero_none : (k : Row) (rows : List Row) → same_row k [] ≡ false → has_row k (map (take zero) rows) ≡ false
zero_none k [] e = refl
zero_none k (row ∷ rows) e = λ i. e i || zero_none k rows e i

no_rows : (w : ℕ) (k : Row) (rows : List Row) → has_row k (group_keys w rows) ≡ false → of_group w k rows ≡ []
no_rows zero k rows e = none_of k zero rows (zero_none k rows (first (same_row k []) e))
  where
    first : (b : Bool) → (b || false) ≡ false → b ≡ false
    first true e = cc
    first false e = refl
no_rows (suc w) k rows e =
    none_of k (suc w) rows (sym (has_distinct k (map (take (suc w)) rows)) ∙ ap (has_row k) (sym (some_keys w rows)) ∙ e)

-- the parts of rows that are joined parts themselves
again : {X : Type 0} (aggregates : List (Item ℕ)) (n : ℕ) (f : X → Row) (bag : X → List Row) (xs : List X) → ((x : X) → drop n (f x) ≡ joined_parts aggregates n (bag x))
    → joined_parts aggregates n (map f xs) ≡ joined_parts aggregates n (flat_map bag xs)
again {X = X} [] n f bag xs h = refl
again {X = X} (a ∷ aggregates) n f bag xs h =
    let first = ap (joined_part a) (each xs) ∙ joined_again a (map (λ x. map (λ r. value_at r n) (bag x)) xs) ∙ ap (joined_part a) (all xs) in
    let rest = again aggregates (n + 1) f bag xs (λ x. drop_next (f x) (joined_parts aggregates (n + 1) (bag x)) (joined_part a (map (λ r. value_at r n) (bag x))) n (h x)) in
    λ i. first i ∷ rest i
  where
    each : (ys : List X) → map (λ r. value_at r n) (map f ys) ≡ map (joined_part a) (map (λ x. map (λ r. value_at r n) (bag x)) ys)
    each [] = refl
    each (y ∷ ys) = λ i. at_drop (f y) n (joined_part a (map (λ r. value_at r n) (bag y))) (joined_parts aggregates (n + 1) (bag y)) (h y) i ∷ each ys i

    all : (ys : List X) → together (map (λ x. map (λ r. value_at r n) (bag x)) ys) ≡ map (λ r. value_at r n) (flat_map bag ys)
    all [] = refl
    all (y ∷ ys) = ap (λ l. map (λ r. value_at r n) (bag y) ++ l) (all ys) ∙ sym (map-append (λ (r : Row). value_at r n) (bag y) (flat_map bag ys))

module _ (aggregates : List (Item ℕ)) (w : ℕ) where
  abbrev joined : List Row → List Row
  joined rows = joined_rows aggregates w rows

  -- the row of a group
  abbrev pub one : List Row → Row → Row
  one rows key = key ++ joined_parts aggregates w (of_group w key rows)

  -- rows in another order have the same groups
  pub rows_permuted : (xs ys : List Row) → IsPermutation xs ys → IsPermutation (joined xs) (joined ys)
  rows_permuted xs ys h =
      subst (λ l. IsPermutation l (joined ys))
      (λ i. map (λ key. key ++ parts_permuted aggregates w (of_group w key ys) (of_group w key xs) (IsPermutation-filter (λ row. same_row key (take w row)) ys xs (IsPermutation-sym xs ys h)) i) (group_keys w xs))
      (IsPermutation-map (one ys) (group_keys w xs) (group_keys w ys) (keys_permuted w xs ys h))

  own_rows : (key : Row) (rows keys : List Row) → AllByRecursion (λ k. length k ≡ w) keys → of_group w key (map (one rows) keys) ≡ map (one rows) (filter (same_row key) keys)
  own_rows key rows [] all = refl
  own_rows key rows (k ∷ keys) all =
      (λ i. cond (same_row key (take_join w k (joined_parts aggregates w (of_group w k rows)) all.0 i)) (one rows k ∷ own_rows key rows keys all.1 i) (own_rows key rows keys all.1 i))
      ∙ by (same_row key k)
    where
      by : (b : Bool) → cond b (one rows k ∷ map (one rows) (filter (same_row key) keys)) (map (one rows) (filter (same_row key) keys))
          ≡ map (one rows) (cond b (k ∷ filter (same_row key) keys) (filter (same_row key) keys))
      by true = refl
      by false = refl

  one_group : (key : Row) (rows : List Row) → AreWide w rows → of_group w key (joined rows) ≡ cond (has_row key (group_keys w rows)) (one rows key ∷ []) []
  one_group key rows wide =
      own_rows key rows (group_keys w rows) (key_lengths w rows wide) ∙ ap (map (one rows)) (only key (group_keys w rows) (keys_distinct w rows))
      ∙ by (has_row key (group_keys w rows))
    where
      by : (b : Bool) → map (one rows) (cond b (key ∷ []) []) ≡ cond b (one rows key ∷ []) []
      by true = refl
      by false = refl

  -- the lists that have rows of a group
  abbrev held : Row → List (List Row) → List (List Row)
  held key parts = filter (λ rows. has_row key (group_keys w rows)) parts

  held_group : (key : Row) (parts : List (List Row)) → AllByRecursion (AreWide w) parts → of_group w key (flat_map joined parts) ≡ map (λ rows. one rows key) (held key parts)
  held_group key [] wide = refl
  held_group key (rows ∷ parts) wide =
      filter-append (λ row. same_row key (take w row)) (joined rows) (flat_map joined parts)
      ∙ (λ i. one_group key rows wide.0 i ++ held_group key parts wide.1 i) ∙ by (has_row key (group_keys w rows))
    where
      by : (b : Bool) → cond b (one rows key ∷ []) [] ++ map (λ r. one r key) (held key parts) ≡ map (λ r. one r key) (cond b (rows ∷ held key parts) (held key parts))
      by true = refl
      by false = refl

  held_rows : (key : Row) (parts : List (List Row)) → flat_map (of_group w key) (held key parts) ≡ of_group w key (flat_map (λ rows. rows) parts)
  held_rows key [] = refl
  held_rows key (rows ∷ parts) =
      by (has_row key (group_keys w rows)) refl (held_rows key parts) ∙ sym (filter-append (λ row. same_row key (take w row)) rows (flat_map (λ rows. rows) parts))
    where
      by : (b : Bool) → has_row key (group_keys w rows) ≡ b → flat_map (of_group w key) (held key parts) ≡ of_group w key (flat_map (λ rows. rows) parts)
          → flat_map (of_group w key) (cond b (rows ∷ held key parts) (held key parts)) ≡ of_group w key rows ++ of_group w key (flat_map (λ rows. rows) parts)
      by true e rest = ap (λ l. of_group w key rows ++ l) rest
      by false e rest = rest ∙ ap (λ l. l ++ of_group w key (flat_map (λ rows. rows) parts)) (sym (no_rows w key rows e))

  first_values : (rows keys : List Row) → AllByRecursion (λ k. length k ≡ w) keys → map (take w) (map (one rows) keys) ≡ keys
  first_values rows [] all = refl
  first_values rows (k ∷ keys) all = λ i. take_join w k (joined_parts aggregates w (of_group w k rows)) all.0 i ∷ first_values rows keys all.1 i

  all_first_values : (parts : List (List Row)) → AllByRecursion (AreWide w) parts → map (take w) (flat_map joined parts) ≡ flat_map (group_keys w) parts
  all_first_values [] wide = refl
  all_first_values (rows ∷ parts) wide =
      map-append (take w) (joined rows) (flat_map joined parts)
      ∙ (λ i. first_values rows (group_keys w rows) (key_lengths w rows wide.0) i ++ all_first_values parts wide.1 i)

map_flat : (f : Row → Row) (parts : List (List Row)) → map f (flat_map (λ rows. rows) parts) ≡ flat_map (map f) parts
map_flat f [] = refl
map_flat f (rows ∷ parts) = map-append f rows (flat_map (λ rows. rows) parts) ∙ ap (λ l. map f rows ++ l) (map_flat f parts)

keys_again : (aggregates : List (Item ℕ)) (w : ℕ) (parts : List (List Row)) → AllByRecursion (AreWide w) parts
    → group_keys w (flat_map (joined_rows aggregates w) parts) ≡ group_keys w (flat_map (λ rows. rows) parts)
keys_again aggregates zero parts wide = refl
keys_again aggregates (suc w) parts wide =
    some_keys w (flat_map (joined_rows aggregates (suc w)) parts)
    ∙ ap distinct (all_first_values aggregates (suc w) parts wide ∙ (λ i. flat_map (λ rows. some_keys w rows i) parts))
    ∙ distinct_parts (map (take (suc w))) parts ∙ ap distinct (sym (map_flat (take (suc w)) parts)) ∙ sym (some_keys w (flat_map (λ rows. rows) parts))

all_wide : (w : ℕ) (parts : List (List Row)) → AllByRecursion (AreWide w) parts → AreWide w (flat_map (λ rows. rows) parts)
all_wide w [] all = tt
all_wide w (rows ∷ parts) all = join rows all.0 (all_wide w parts all.1)
  where
    join : (xs : List Row) → AreWide w xs → AreWide w (flat_map (λ rows. rows) parts) → AreWide w (xs ++ flat_map (λ rows. rows) parts)
    join [] h rest = rest
    join (x ∷ xs) h rest = (h.0, join xs h.1 rest)

-- groups of several lists, joined, are the groups of all
pub rejoined : (aggregates : List (Item ℕ)) (w : ℕ) (parts : List (List Row)) → AllByRecursion (AreWide w) parts
    → joined_rows aggregates w (flat_map (joined_rows aggregates w) parts) ≡ joined_rows aggregates w (flat_map (λ rows. rows) parts)
rejoined aggregates w parts wide =
    ap (map (one aggregates w (flat_map (joined_rows aggregates w) parts))) (keys_again aggregates w parts wide)
    ∙ each (group_keys w (flat_map (λ rows. rows) parts)) (key_lengths w (flat_map (λ rows. rows) parts) (all_wide w parts wide))
  where
    parts_again : (key : Row) → length key ≡ w
        → joined_parts aggregates w (of_group w key (flat_map (joined_rows aggregates w) parts)) ≡ joined_parts aggregates w (of_group w key (flat_map (λ rows. rows) parts))
    parts_again key long =
        ap (joined_parts aggregates w) (held_group aggregates w key parts wide)
        ∙ again aggregates w (λ rows. one aggregates w rows key) (of_group w key) (held aggregates w key parts)
        (λ rows. drop_join w key (joined_parts aggregates w (of_group w key rows)) long)
        ∙ ap (joined_parts aggregates w) (held_rows aggregates w key parts)

    each : (keys : List Row) → AllByRecursion (λ k. length k ≡ w) keys
        → map (one aggregates w (flat_map (joined_rows aggregates w) parts)) keys ≡ map (one aggregates w (flat_map (λ rows. rows) parts)) keys
    each [] all = refl
    each (k ∷ keys) all = λ i. (k ++ parts_again k all.0 i) ∷ each keys all.1 i
