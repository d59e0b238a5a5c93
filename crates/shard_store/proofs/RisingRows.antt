-- Rows in the order of their values: those with one value stand together.
use Rattle.std.proofs.Common.{◌≡◌, ℕ, zero, suc, ◌+◌, ◌<◌, length, drop, take, Bool, true, false, List, [], ◌∷◌, filter, get_or, Bor, refl, sym, ap, ◌∙◌, subst, arith}
use Rattle.std.specs.Prelude.{IsSorted}
use Rattle.std.specs.List.{AllByRecursion, AllWithin}
use Rattle.std.specs.List.Sorted.{IsSortedByClosure, IsPartitionedBy, IsPartitionPoint}
use Rattle.std.specs.Fn.{Called, ComputesKey}
use Rattle.std.specs.Ordering.{is_eq, is_lt, is_le, ordering_reverse}
use Rattle.std.specs.declared.cmp.Ordering.{Ordering}
use Rattle.std.specs.declared.cmp.Ordering.TheVariants.{Less, Equal, Greater}
use Rattle.std.proofs.lemmas.Bool.{false≢true}
use Rattle.std.proofs.lemmas.Fn.{always_returns_same}
use Rattle.std.proofs.lemmas.List.Sorted.{ranks_by, IsPartitionPoint-from_clause}
use denote.Param.Members.{Mut}
use Rattle.vt_value.specs.declared.value.Value.{Value}
use Rattle.vt_value.specs.Values.{Row, value_at, value_cmp}
use Rattle.sql_eval.proofs.OrderLemmas.{value_cmp-total, value_cmp-same}
use Rattle.shard_store.specs.inner.Joined.{has_value, Rises, rows_lent}

-- ---- values

back : (a b : Value) → value_cmp a b ≡ Greater → value_cmp b a ≡ Less
back a b e = value_cmp-total.antisymm b a ∙ ap ordering_reverse e

-- what isn't below a value isn't below a lower one
not_below : (x y z : Value) → is_lt (value_cmp y x) ≡ false → is_lt (value_cmp z y) ≡ false → is_lt (value_cmp z x) ≡ false
not_below x y z e f = by (value_cmp y x) refl (value_cmp z x) refl
  where
    by : (o : Ordering) → value_cmp y x ≡ o → (p : Ordering) → value_cmp z x ≡ p → is_lt (value_cmp z x) ≡ false
    by Less t p u = absurd (false≢true (sym e ∙ ap is_lt t))
    by o t Equal u = ap is_lt u
    by o t Greater u = ap is_lt u
    by Equal t Less u = subst (λ (w : Value). is_lt (value_cmp z w) ≡ false) (value_cmp-same y x t) f
    by Greater t Less u = absurd (false≢true (sym f ∙ ap is_lt (value_cmp-total.trans z x y u (back y x t))))

-- a value at most as high as one below v is below v
below_too : (v x y : Value) → is_lt (value_cmp y x) ≡ false → is_lt (value_cmp y v) ≡ true → is_lt (value_cmp x v) ≡ true
below_too v x y e f = by (is_lt (value_cmp x v)) refl
  where
    by : (b : Bool) → is_lt (value_cmp x v) ≡ b → is_lt (value_cmp x v) ≡ true
    by true t = t
    by false t = absurd (false≢true (sym (not_below v x y t e) ∙ f))

-- likewise one at most v
at_most_too : (v x y : Value) → is_lt (value_cmp y x) ≡ false → is_le (value_cmp y v) ≡ true → is_le (value_cmp x v) ≡ true
at_most_too v x y e f = by (value_cmp y v) refl (value_cmp x v) refl
  where
    by : (o : Ordering) → value_cmp y v ≡ o → (p : Ordering) → value_cmp x v ≡ p → is_le (value_cmp x v) ≡ true
    by o t Less u = ap is_le u
    by o t Equal u = ap is_le u
    by Greater t Greater u = absurd (false≢true (sym (ap is_le t) ∙ f))
    by Equal t Greater u = absurd (false≢true (sym e ∙ (ap (λ (w : Value). is_lt (value_cmp w x)) (value_cmp-same y v t) ∙ ap is_lt (back x v u))))
    by Less t Greater u = absurd (false≢true (sym e ∙ ap is_lt (value_cmp-total.trans y v x t (back x v u))))

below_other : (v x : Value) → is_lt (value_cmp x v) ≡ true → is_eq (value_cmp v x) ≡ false
below_other v x e = by (value_cmp x v) refl
  where
    by : (o : Ordering) → value_cmp x v ≡ o → is_eq (value_cmp v x) ≡ false
    by Less t = ap is_eq (value_cmp-total.antisymm v x ∙ ap ordering_reverse t)
    by Equal t = absurd (false≢true (sym (ap is_lt t) ∙ e))
    by Greater t = absurd (false≢true (sym (ap is_lt t) ∙ e))

above_other : (v x : Value) → is_le (value_cmp x v) ≡ false → is_eq (value_cmp v x) ≡ false
above_other v x e = by (value_cmp x v) refl
  where
    by : (o : Ordering) → value_cmp x v ≡ o → is_eq (value_cmp v x) ≡ false
    by Greater t = ap is_eq (value_cmp-total.antisymm v x ∙ ap ordering_reverse t)
    by Equal t = absurd (false≢true (sym e ∙ ap is_le t))
    by Less t = absurd (false≢true (sym e ∙ ap is_le t))

between : (v x : Value) → is_lt (value_cmp x v) ≡ false → is_le (value_cmp x v) ≡ true → is_eq (value_cmp v x) ≡ true
between v x e f = by (value_cmp x v) refl
  where
    by : (o : Ordering) → value_cmp x v ≡ o → is_eq (value_cmp v x) ≡ true
    by Equal t = ap is_eq (value_cmp-total.antisymm v x ∙ ap ordering_reverse t)
    by Less t = absurd (false≢true (sym e ∙ ap is_lt t))
    by Greater t = absurd (false≢true (sym (ap is_le t) ∙ f))

-- ---- rows

module _ (column : ℕ) where
  abbrev at : Bor Row → Value
  at r = value_at r.now column

  over : (x y : Bor Row) → is_lt (value_cmp (at y) (at x)) ≡ false → (rows : List (Bor Row)) → AllByRecursion (λ z. is_lt (value_cmp (at z) (at y)) ≡ false) rows
      → AllByRecursion (λ z. is_lt (value_cmp (at z) (at x)) ≡ false) rows
  over x y e [] h = tt
  over x y e (z ∷ rows) h = (not_below (at x) (at y) (at z) e h.0, over x y e rows h.1)

  rising : (xs : List (Bor Row)) → IsSorted (λ (a : Bor Row) (b : Bor Row). value_cmp (at a) (at b)) xs → Rises column xs
  rising [] up = tt
  rising (x ∷ []) up = (tt, tt)
  rising (x ∷ y ∷ xs) up =
      let first : is_lt (value_cmp (at y) (at x)) ≡ false = up 0 x (omega arith) (omega arith) in
      let rest = rising (y ∷ xs) (λ k d low within.
      let same : suc k + 1 ≡ suc (k + 1) = omega arith in
      subst (λ m. is_lt (value_cmp (at (get_or (x ∷ y ∷ xs) m d)) (at (get_or (x ∷ y ∷ xs) (suc k) d))) ≡ false) same
      (up (suc k) d (omega arith) (omega (arith, within)))) in
      ((first, over x y first xs rest.0), rest)

  -- a sort by a closure that compares the values of the column
  pub sorted_rows : {F : Type 0} {g : Mut F (Bor (Bor Row) × (Bor (Bor Row) × Unit {0})) Ordering} {f : F} (xs : List (Bor Row)) → IsSortedByClosure g f xs
      → ((a : Bor (Bor Row) × (Bor (Bor Row) × Unit {0})) (r : Ordering) (f' : F) → Called g f a r f' → (r ≡ value_cmp (at a.0.now) (at a.1.0.now)) × (f' ≡ f))
      → Rises column xs
  sorted_rows {g = g} {f = f} xs up h =
      rising xs (up (λ a b. is_lt (value_cmp (at a) (at b))) (ranks_by value_cmp-total at)
      (always_returns_same g (λ a r. is_lt r ≡ is_lt (value_cmp (at a.0.now) (at a.1.0.now))) f (λ a r f' k. (ap is_lt (h a r f' k).0, (h a r f' k).1))))

  later : (x : Bor Row) (rows : List (Bor Row)) → AllByRecursion (λ y. is_lt (value_cmp (at y) (at x)) ≡ false) rows → (j : ℕ) (d : Bor Row) → j < length rows
      → is_lt (value_cmp (at (get_or rows j d)) (at x)) ≡ false
  later x [] h j d l = absurd (omega (arith, l))
  later x (y ∷ rows) h zero d l = h.0
  later x (y ∷ rows) h (suc j) d l = later x rows h.1 j d (omega (arith, l))

  parted : (p : Bor Row → Bool) → ((x y : Bor Row) → is_lt (value_cmp (at y) (at x)) ≡ false → p y ≡ true → p x ≡ true) → (xs : List (Bor Row)) → Rises column xs
      → IsPartitionedBy p xs
  parted p h [] up i j d low l e = absurd (omega (arith, l))
  parted p h (x ∷ xs) up zero zero d low l e = e
  parted p h (x ∷ xs) up zero (suc j) d low l e = h x (get_or xs j d) (later x xs up.0 j d (omega (arith, l))) e
  parted p h (x ∷ xs) up (suc i) zero d low l e = absurd (omega (arith, low))
  parted p h (x ∷ xs) up (suc i) (suc j) d low l e = parted p h xs up.1 i j d (omega (arith, low)) (omega (arith, l)) e

  pub rises_after : (i : ℕ) (xs : List (Bor Row)) → Rises column xs → Rises column (drop i xs)
  rises_after zero xs up = up
  rises_after (suc i) [] up = tt
  rises_after (suc i) (x ∷ xs) up = rises_after i xs up.1

  module _ (v : Value) where
    abbrev pub is_below_value : Bor Row → Bool
    is_below_value r = is_lt (value_cmp (at r) v)

    abbrev pub is_up_to_value : Bor Row → Bool
    is_up_to_value r = is_le (value_cmp (at r) v)

    below_parted : (xs : List (Bor Row)) → Rises column xs → IsPartitionedBy is_below_value xs
    below_parted xs up = parted is_below_value (λ x y e f. below_too v (at x) (at y) e f) xs up

    up_to_parted : (xs : List (Bor Row)) → Rises column xs → IsPartitionedBy is_up_to_value xs
    up_to_parted xs up = parted is_up_to_value (λ x y e f. at_most_too v (at x) (at y) e f) xs up

    -- where the search by a closure that compares values ends
    pub below_point : {F : Type 0} {g : Mut F (Bor (Bor Row) × Unit {0}) Bool} {f : F} (xs : List (Bor Row)) (i : ℕ)
        → ((q : Bor Row → Bool) → ComputesKey g q f → IsPartitionedBy q xs → IsPartitionPoint (λ y. q y ≡ true) (λ y. q y ≡ false) xs i) → Rises column xs
        → ((a : Bor (Bor Row) × Unit {0}) (r : Bool) (f' : F) → Called g f a r f' → (r ≡ is_below_value a.0.now) × (f' ≡ f))
        → IsPartitionPoint (λ y. is_below_value y ≡ true) (λ y. is_below_value y ≡ false) xs i
    below_point xs i point up h = IsPartitionPoint-from_clause is_below_value xs i point (below_parted xs up) h

    -- rows before the first that isn't below the value don't have it
    pub others_dropped : (xs : List (Bor Row)) (i : ℕ) → AllWithin (λ x. is_below_value x ≡ true) xs 0 i
        → filter (has_value column v) (rows_lent (drop i xs)) ≡ filter (has_value column v) (rows_lent xs)
    others_dropped xs zero h = refl
    others_dropped [] (suc i) h = refl
    others_dropped (x ∷ xs) (suc i) h =
        let here : has_value column v x.now ≡ false = below_other v (at x) (h 0 x (omega arith) (omega arith)) in
        let rest = others_dropped xs i (λ k d low l. h (suc k) d (omega arith) (omega (arith, l))) in
        rw here rest

    pub none_below : (xs : List (Bor Row)) (i : ℕ) → AllWithin (λ x. is_below_value x ≡ false) xs i (length xs)
        → AllByRecursion (λ x. is_below_value x ≡ false) (drop i xs)
    none_below [] zero h = tt
    none_below [] (suc i) h = tt
    none_below (x ∷ xs) zero h = (h 0 x (omega arith) (omega arith), none_below xs zero (λ k d low l. h (suc k) d (omega arith) (omega (arith, l))))
    none_below (x ∷ xs) (suc i) h = none_below xs i (λ k d low l. h (suc k) d (omega (arith, low)) (omega (arith, l)))

    none_with : (xs : List (Bor Row)) → AllWithin (λ x. is_up_to_value x ≡ false) xs 0 (length xs) → [] ≡ filter (has_value column v) (rows_lent xs)
    none_with [] h = refl
    none_with (x ∷ xs) h =
        let here : has_value column v x.now ≡ false = above_other v (at x) (h 0 x (omega arith) (omega arith)) in
        let rest = none_with xs (λ k d low l. h (suc k) d (omega arith) (omega (arith, l))) in
        rw here rest

    pub up_to_point : {F : Type 0} {g : Mut F (Bor (Bor Row) × Unit {0}) Bool} {f : F} (xs : List (Bor Row)) (i : ℕ)
        → ((q : Bor Row → Bool) → ComputesKey g q f → IsPartitionedBy q xs → IsPartitionPoint (λ y. q y ≡ true) (λ y. q y ≡ false) xs i) → Rises column xs
        → ((a : Bor (Bor Row) × Unit {0}) (r : Bool) (f' : F) → Called g f a r f' → (r ≡ is_up_to_value a.0.now) × (f' ≡ f))
        → IsPartitionPoint (λ y. is_up_to_value y ≡ true) (λ y. is_up_to_value y ≡ false) xs i
    up_to_point xs i point up h = IsPartitionPoint-from_clause is_up_to_value xs i point (up_to_parted xs up) h

    -- of rows that aren't below the value, those up to the last that isn't above it have it
    pub others_cut : (xs : List (Bor Row)) (i : ℕ) → AllByRecursion (λ x. is_below_value x ≡ false) xs → IsPartitionPoint (λ x. is_up_to_value x ≡ true) (λ x. is_up_to_value x ≡ false) xs i
        → rows_lent (take i xs) ≡ filter (has_value column v) (rows_lent xs)
    others_cut [] zero low point = refl
    others_cut [] (suc i) low point = refl
    others_cut (x ∷ xs) zero low point = none_with (x ∷ xs) point.1
    others_cut (x ∷ xs) (suc i) low point =
        let here : has_value column v x.now ≡ true = between v (at x) low.0 (point.0 0 x (omega arith) (omega arith)) in
        let rest = others_cut xs i low.1
        ((λ k d l h. point.0 (suc k) d (omega arith) (omega (arith, h))), (λ k d l h. point.1 (suc k) d (omega (arith, l)) (omega (arith, h)))) in
        rw here (ap (λ z. x.now ∷ z) rest)
