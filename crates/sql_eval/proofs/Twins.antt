-- Keys that are there twice: neighbours in the order of keys, or one of the rows that are there.
use Rattle.std.proofs.Common.{◌≡◌, ℕ, suc, ◌+◌, ◌<◌, Bool, true, false, true≢false, ◌||◌, List, [], ◌∷◌, length, get_or, map, refl, sym, ap, ◌∙◌, arith}
use Rattle.std.specs.Prelude.{IsSorted, IsPermutation}
use Rattle.std.specs.Cmp.{IsTotalOrder}
use Rattle.std.specs.List.{list_any, IsDistinct, AllByRecursion}
use Rattle.std.specs.Ordering.{is_lt, is_eq, ordering_reverse}
use Rattle.std.specs.declared.cmp.Ordering.{Ordering}
use Rattle.std.specs.declared.cmp.Ordering.TheVariants.{Less, Equal, Greater}
use Rattle.std.proofs.lemmas.Cmp.{on_total, lists_total}
use Rattle.std.proofs.lemmas.List.Sorted.{IsPermutation-sym, sorted_far, ranks_by, list_any-IsPermutation}
use Rattle.std.proofs.lemmas.Map.Keys.{IsDistinct-IsPermutation}
use Rattle.vt_value.specs.Values.{Row}
use Rattle.vschema.specs.declared.schema.Table.{Table}
use Rattle.vschema.specs.Schema.{key_of}
use Rattle.aggregate.proofs.OrderLemmas.{value_cmp-total}
use Rattle.sql_eval.specs.Writes.{has_duplicate}
use Rattle.sql_eval.specs.KeyOrder.{key_cmp}
use Rattle.sql_eval.specs.inner.Keys.{same_key, has_twins, shares_key}

pub key_cmp-total : (t : Table) → IsTotalOrder (key_cmp t)
key_cmp-total t = on_total (key_of t) (lists_total value_cmp-total)

equal_turned : (o : Ordering) → is_eq (ordering_reverse o) ≡ is_eq o
equal_turned Less = refl
equal_turned Equal = refl
equal_turned Greater = refl

pub same_key-turned : (t : Table) (a b : Row) → same_key t a b ≡ same_key t b a
same_key-turned t a b = ap is_eq ((key_cmp-total t).antisymm a b) ∙ equal_turned (key_cmp t b a)

-- a row has the key of one after it
twice : Table → List Row → Bool
twice t [] = false
twice t (a ∷ rows) = list_any (same_key t a) rows || twice t rows

none_passes : {X : Type 0} (p : X → Bool) (xs : List X) → AllByRecursion (λ x. p x ≡ false) xs → list_any p xs ≡ false
none_passes p [] h = refl
none_passes p (x ∷ xs) h = ap (λ z. z || list_any p xs) h.0 ∙ none_passes p xs h.1

or_false : (a b : Bool) → (a || b) ≡ false → (a ≡ false) × (b ≡ false)
or_false true b e = absurd (true≢false e)
or_false false b e = (refl, e)

none_pass : {X : Type 0} (p : X → Bool) (xs : List X) → list_any p xs ≡ false → AllByRecursion (λ x. p x ≡ false) xs
none_pass p [] e = tt
none_pass p (x ∷ xs) e = let both = or_false (p x) (list_any p xs) e in (both.0, none_pass p xs both.1)

distinct : (t : Table) (rows : List Row) → twice t rows ≡ false → IsDistinct (same_key t) rows
unfolding IsDistinct twice
distinct t [] e = tt
distinct t (a ∷ rows) e =
    let both = or_false (list_any (same_key t a) rows) (twice t rows) e in
    (none_pass (same_key t a) rows both.0, distinct t rows both.1)

not_twice : (t : Table) (rows : List Row) → IsDistinct (same_key t) rows → twice t rows ≡ false
unfolding IsDistinct twice
not_twice t [] h = refl
not_twice t (a ∷ rows) h = ap (λ z. z || twice t rows) (none_passes (same_key t a) rows h.0) ∙ not_twice t rows h.1

carried : (t : Table) (a b : List Row) → IsPermutation a b → twice t a ≡ false → twice t b ≡ false
carried t a b h e = not_twice t b (IsDistinct-IsPermutation (same_key t) (same_key-turned t) a b h (distinct t a e))

-- which rows are there decides it, not their order
twice-permutation : (t : Table) (a b : List Row) → IsPermutation a b → twice t a ≡ twice t b
twice-permutation t a b h = by (twice t a) (twice t b) refl refl
  where
    by : (x y : Bool) → twice t a ≡ x → twice t b ≡ y → twice t a ≡ twice t b
    by true true e f = e ∙ sym f
    by true false e f = absurd (true≢false (sym e ∙ carried t b a (IsPermutation-sym a b h) f))
    by false y e f = e ∙ sym (carried t a b h e)

module _ {X : Type 0} (R : X → X → Ordering) (o : IsTotalOrder R) where
  -- what isn't before b comes after a, which is before b
  trailing : (a b c : X) → R a b ≡ Less → is_lt (R c b) ≡ false → is_eq (R a c) ≡ false
  trailing a b c less h = by (R c b) refl h
    where
      by : (p : Ordering) → R c b ≡ p → is_lt p ≡ false → is_eq (R a c) ≡ false
      by Less e h = absurd (true≢false h)
      by Equal e h = ap is_eq (o.antisymm a c ∙ ap ordering_reverse (o.congr c b a e ∙ o.antisymm b a ∙ ap ordering_reverse less))
      by Greater e h = ap is_eq (o.trans a b c less (o.antisymm b c ∙ ap ordering_reverse e))

  is_less : (p : Ordering) → is_lt (ordering_reverse p) ≡ false → is_eq p ≡ false → p ≡ Less
  is_less Less h e = refl
  is_less Equal h e = absurd (true≢false e)
  is_less Greater h e = absurd (true≢false h)

  all_past : (a b : X) (cs : List X) → R a b ≡ Less → ((j : ℕ) (d : X) → j < length cs → is_lt (R (get_or cs j d) b) ≡ false) → list_any (λ c. is_eq (R a c)) cs ≡ false
  all_past a b [] less h = refl
  all_past a b (c ∷ cs) less h =
      ap (λ z. z || list_any (λ c. is_eq (R a c)) cs) (trailing a b c less (h 0 c (omega arith))) ∙ all_past a b cs less (λ j d w. h (suc j) d (omega (arith, w)))

sorted_rest : (t : Table) (a : Row) (rows : List Row) → IsSorted (key_cmp t) (a ∷ rows) → IsSorted (key_cmp t) rows
sorted_rest t a rows s k d low within =
    let e : suc k + 1 ≡ suc (k + 1) = omega arith in
    let h : suc k + 1 < length (a ∷ rows) = omega (arith, within) in
    rw e at (s (suc k) d (omega arith) h)

twins_more : (t : Table) (a b : Row) (rows : List Row) → IsSorted (key_cmp t) (a ∷ b ∷ rows) → has_twins t (b ∷ rows) ≡ twice t (b ∷ rows)
    → has_twins t (a ∷ b ∷ rows) ≡ twice t (a ∷ b ∷ rows)
unfolding twice
twins_more t a b rows s rest = by (same_key t a b) refl
  where
    by : (x : Bool) → same_key t a b ≡ x → has_twins t (a ∷ b ∷ rows) ≡ twice t (a ∷ b ∷ rows)
    by true e = ap (λ z. z || has_twins t (b ∷ rows)) e ∙ sym (ap (λ z. (z || list_any (same_key t a) rows) || twice t (b ∷ rows)) e)
    by false e =
        let o = key_cmp-total t in
        let far = sorted_far (λ x y. is_lt (key_cmp t x y)) (ranks_by o (λ (r : Row). r)) (a ∷ b ∷ rows) s in
        let low : is_lt (key_cmp t b a) ≡ false = far 0 1 a (omega arith) (omega arith) in
        let less : key_cmp t a b ≡ Less = is_less (key_cmp t) o (key_cmp t a b) (ap is_lt (sym (o.antisymm b a)) ∙ low) e in
        let none : list_any (same_key t a) rows ≡ false =
        all_past (key_cmp t) o a b rows less (λ j d w. far 1 (suc (suc j)) d (omega arith) (omega (arith, w))) in
        ap (λ z. z || has_twins t (b ∷ rows)) e ∙ rest
        ∙ sym (ap (λ z. (z || list_any (same_key t a) rows) || twice t (b ∷ rows)) e ∙ ap (λ z. z || twice t (b ∷ rows)) none)

-- in order, rows with one key are neighbours
twins : (t : Table) (rows : List Row) → IsSorted (key_cmp t) rows → has_twins t rows ≡ twice t rows
unfolding twice
twins t [] s = refl
twins t (a ∷ []) s = refl
twins t (a ∷ b ∷ rows) s = twins_more t a b rows s (twins t (b ∷ rows) (sorted_rest t a (b ∷ rows) s))

any_or : {X : Type 0} (p q : X → Bool) (xs : List X) → list_any (λ x. p x || q x) xs ≡ (list_any p xs || list_any q xs)
any_or p q [] = refl
any_or p q (x ∷ xs) = ap (λ z. (p x || q x) || z) (any_or p q xs) ∙ by (p x) (q x) (list_any p xs) (list_any q xs)
  where
    by : (a b c d : Bool) → ((a || b) || (c || d)) ≡ ((a || c) || (b || d))
    by true b c d = refl
    by false true true d = refl
    by false true false d = refl
    by false false true d = refl
    by false false false d = refl

any_same : {X : Type 0} (p q : X → Bool) → ((x : X) → p x ≡ q x) → (xs : List X) → list_any p xs ≡ list_any q xs
any_same p q h [] = refl
any_same p q h (x ∷ xs) = λ i. h x i || any_same p q h xs i

any_never : {X : Type 0} (xs : List X) → list_any (λ (x : X). false) xs ≡ false
any_never [] = refl
any_never (x ∷ xs) = any_never xs

any_turned : {X Y : Type 0} (p : X → Y → Bool) (xs : List X) (ys : List Y) → list_any (λ y. list_any (λ x. p x y) xs) ys ≡ list_any (λ x. list_any (p x) ys) xs
any_turned p [] ys = any_never ys
any_turned p (x ∷ xs) ys = any_or (p x) (λ y. list_any (λ z. p z y) xs) ys ∙ ap (λ z. list_any (p x) ys || z) (any_turned p xs ys)

pub any_map : {X Y : Type 0} (p : Y → Bool) (f : X → Y) (xs : List X) → list_any p (map f xs) ≡ list_any (λ x. p (f x)) xs
any_map p f [] = refl
any_map p f (x ∷ xs) = ap (λ z. p (f x) || z) (any_map p f xs)

regroup : (a p q w : Bool) → (a || ((p || q) || w)) ≡ ((a || q) || (p || w))
regroup true p q w = refl
regroup false true true w = refl
regroup false true false w = refl
regroup false false true w = refl
regroup false false false w = refl

-- a new row has the key of one that is there, or of another new one
split : (t : Table) (rows new : List Row) → has_duplicate t rows new ≡ (list_any (λ n. list_any (same_key t n) rows) new || twice t new)
unfolding twice
split t rows [] = refl
split t rows (n ∷ more) =
    ap (λ z. list_any (same_key t n) rows || z)
    (split t (n ∷ rows) more
    ∙ ap (λ z. z || twice t more)
    (any_or (λ m. same_key t m n) (λ m. list_any (same_key t m) rows) more
    ∙ ap (λ z. z || list_any (λ m. list_any (same_key t m) rows) more) (any_same (λ m. same_key t m n) (same_key t n) (λ m. same_key-turned t m n) more)))
    ∙ regroup (list_any (same_key t n) rows) (list_any (same_key t n) more) (list_any (λ m. list_any (same_key t m) rows) more) (twice t more)

or_turned : (a b : Bool) → (a || b) ≡ (b || a)
or_turned true true = refl
or_turned true false = refl
or_turned false true = refl
or_turned false false = refl

pub in_order : (t : Table) (rows new sorted : List Row) → IsPermutation new sorted → IsSorted (key_cmp t) sorted
    → (has_twins t sorted || shares_key t sorted rows) ≡ has_duplicate t rows new
in_order t rows new sorted h s =
    let first : has_twins t sorted ≡ twice t new = twins t sorted s ∙ sym (twice-permutation t new sorted h) in
    let second : shares_key t sorted rows ≡ list_any (λ n. list_any (same_key t n) rows) new =
    any_turned (same_key t) sorted rows ∙ sym (list_any-IsPermutation (λ n. list_any (same_key t n) rows) new sorted h) in
    (λ i. first i || second i) ∙ or_turned (twice t new) (list_any (λ n. list_any (same_key t n) rows) new) ∙ sym (split t rows new)
