-- Rows each once, of several lists together and in another order.
use Rattle.std.proofs.Common.{◌≡◌, Bool, true, false, cond, List, [], ◌∷◌, ◌++◌, filter, flat_map, IsPermutation, refl, sym, ap, subst, ◌∙◌, true≢false}
use Rattle.std.specs.Prelude.{not, ◌||◌}
use Rattle.std.specs.List.{AllByRecursion, IsDistinct}
use Rattle.std.proofs.lemmas.List.Elements.{filter-append}
use Rattle.std.proofs.lemmas.List.Sorted.{IsPermutation-refl, IsPermutation-sym, IsPermutation-trans, IsPermutation-cons, IsPermutation-filter_both, list_any-IsPermutation}
use Rattle.vt_value.specs.Values.{Row, same_row}
use Rattle.aggregate.specs.inner.Grouping.{has_row}
use Rattle.aggregate.specs.Groups.{distinct}
use Rattle.aggregate.specs.inner.KeyLemmas.{same_row-equiv, same_row-same}
use Rattle.aggregate.proofs.DistinctLemmas.{has_distinct, kept_any}
use Rattle.sql_eval.proofs.GroupLemmas.{filter_all}

-- the others than x
abbrev others : Row → List Row → List Row
others x keys = filter (λ other. not (same_row x other)) keys

first_kept : (p : Row → Bool) (x : Row) (xs : List Row) (b : Bool) → AllByRecursion (λ y. same_row x y ≡ false) xs → IsDistinct same_row (filter p xs)
    → IsDistinct same_row (cond b (x ∷ filter p xs) (filter p xs))
unfolding IsDistinct
first_kept p x xs true all rest = (filter_all (λ y. same_row x y ≡ false) p xs all, rest)
first_kept p x xs false all rest = rest

keeps_distinct : (p : Row → Bool) (xs : List Row) → IsDistinct same_row xs → IsDistinct same_row (filter p xs)
unfolding IsDistinct
keeps_distinct p [] h = tt
keeps_distinct p (x ∷ xs) h = first_kept p x xs (p x) h.0 (keeps_distinct p xs h.1)

differ : (x : Row) (xs : List Row) → AllByRecursion (λ y. same_row x y ≡ false) (others x xs)
differ x [] = tt
differ x (y ∷ xs) = by (same_row x y) refl (differ x xs)
  where
    by : (b : Bool) → same_row x y ≡ b → AllByRecursion (λ y. same_row x y ≡ false) (others x xs)
        → AllByRecursion (λ y. same_row x y ≡ false) (cond (not b) (y ∷ others x xs) (others x xs))
    by true e rest = rest
    by false e rest = (e, rest)

pub distinct_is : (xs : List Row) → IsDistinct same_row (distinct xs)
unfolding IsDistinct
distinct_is [] = tt
distinct_is (x ∷ xs) = (differ x (distinct xs), keeps_distinct (λ other. not (same_row x other)) (distinct xs) (distinct_is xs))

unchanged : (x : Row) (xs : List Row) → AllByRecursion (λ y. same_row x y ≡ false) xs → others x xs ≡ xs
unchanged x [] h = refl
unchanged x (y ∷ xs) h = λ i. cond (not (h.0 i)) (y ∷ unchanged x xs h.1 i) (unchanged x xs h.1 i)

settled : (xs : List Row) → IsDistinct same_row xs → distinct xs ≡ xs
unfolding IsDistinct
settled [] h = refl
settled (x ∷ xs) h = ap (λ d. x ∷ others x d) (settled xs h.1) ∙ ap (λ d. x ∷ d) (unchanged x xs h.0)

pub filter_true : (xs : List Row) → filter (λ x. true) xs ≡ xs
filter_true [] = refl
filter_true (x ∷ xs) = ap (λ l. x ∷ l) (filter_true xs)

filter_twice : (p q r : Row → Bool) → ((x : Row) → cond (q x) (p x) false ≡ r x) → (xs : List Row) → filter p (filter q xs) ≡ filter r xs
filter_twice p q r same [] = refl
filter_twice p q r same (x ∷ xs) = by (q x) (same x) (filter_twice p q r same xs)
  where
    by : (b : Bool) → cond b (p x) false ≡ r x → filter p (filter q xs) ≡ filter r xs
        → filter p (cond b (x ∷ filter q xs) (filter q xs)) ≡ cond (r x) (x ∷ filter r xs) (filter r xs)
    by true e rest = λ i. cond (e i) (x ∷ rest i) (rest i)
    by false e rest = rest ∙ ap (λ t. cond t (x ∷ filter r xs) (filter r xs)) e

neither : (a c b : Bool) → a ≡ c → cond (not b) (not a) false ≡ not (c || b)
neither true true true e = refl
neither true true false e = refl
neither true false b e = cc
neither false true b e = cc
neither false false true e = refl
neither false false false e = refl

distinct-append : (xs ys : List Row) → distinct (xs ++ ys) ≡ distinct xs ++ filter (λ y. not (has_row y xs)) (distinct ys)
distinct-append [] ys = sym (filter_true (distinct ys))
distinct-append (x ∷ xs) ys =
    ap (λ d. x ∷ others x d) (distinct-append xs ys)
    ∙ ap (λ d. x ∷ d) (filter-append (λ other. not (same_row x other)) (distinct xs) (filter (λ y. not (has_row y xs)) (distinct ys)))
    ∙ ap (λ d. x ∷ others x (distinct xs) ++ d)
    (filter_twice (λ other. not (same_row x other)) (λ y. not (has_row y xs)) (λ y. not (has_row y (x ∷ xs)))
    (λ y. neither (same_row x y) (same_row y x) (has_row y xs) (same_row-equiv.symm x y)) (distinct ys))

-- lists that have each row once already
pub distinct_parts : {X : Type 0} (f : X → List Row) (xs : List X) → distinct (flat_map (λ x. distinct (f x)) xs) ≡ distinct (flat_map f xs)
distinct_parts f [] = refl
distinct_parts f (x ∷ xs) =
    distinct-append (distinct (f x)) (flat_map (λ y. distinct (f y)) xs)
    ∙ (λ i. settled (distinct (f x)) (distinct_is (f x)) i ++ filter (λ y. not (has_distinct y (f x) i)) (distinct_parts f xs i))
    ∙ sym (distinct-append (f x) (flat_map f xs))

none_same : (x : Row) (xs : List Row) → AllByRecursion (λ y. same_row x y ≡ false) xs → filter (same_row x) xs ≡ []
none_same x [] h = refl
none_same x (y ∷ xs) h = λ i. cond (h.0 i) (y ∷ none_same x xs h.1 i) (none_same x xs h.1 i)

absent : (x : Row) (xs : List Row) → AllByRecursion (λ y. same_row x y ≡ false) xs → has_row x xs ≡ false
absent x [] h = refl
absent x (y ∷ xs) h = λ i. h.0 i || absent x xs h.1 i

-- of rows each once, those that are this one
pub only : (k : Row) (xs : List Row) → IsDistinct same_row xs → filter (same_row k) xs ≡ cond (has_row k xs) (k ∷ []) []
unfolding IsDistinct
only k [] h = refl
only k (x ∷ xs) h = by (same_row k x) refl h.0 (only k xs h.1)
  where
    by : (b : Bool) → same_row k x ≡ b → AllByRecursion (λ y. same_row x y ≡ false) xs → filter (same_row k) xs ≡ cond (has_row k xs) (k ∷ []) []
        → cond b (x ∷ filter (same_row k) xs) (filter (same_row k) xs) ≡ cond (b || has_row k xs) (k ∷ []) []
    by true e all rest =
        let same = same_row-same k x e in
        let none = ap (λ r. filter (same_row r) xs) same ∙ none_same x xs all in
        λ i. sym same i ∷ none i
    by false e all rest = rest

member : (x : Row) (xs ys : List Row) → AllByRecursion (λ y. same_row x y ≡ false) xs → ((k : Row) → has_row k (x ∷ xs) ≡ has_row k ys)
    → (k : Row) → has_row k xs ≡ has_row k (others x ys)
member x xs ys all same k = by (same_row k x) refl (same k)
  where
    by : (b : Bool) → same_row k x ≡ b → (b || has_row k xs) ≡ has_row k ys → has_row k xs ≡ has_row k (others x ys)
    by true e h =
        let this = same_row-same k x e in
        ap (λ r. has_row r xs) this ∙ absent x xs all ∙ sym (ap (λ r. has_row r (others x ys)) this ∙ absent x (others x ys) (differ x ys))
    by false e h = h ∙ sym (kept_any k x ys e)

-- rows each once with the same members
same_members : (xs ys : List Row) → IsDistinct same_row xs → IsDistinct same_row ys → ((k : Row) → has_row k xs ≡ has_row k ys) → IsPermutation xs ys
unfolding IsDistinct
same_members [] [] d e h = IsPermutation-refl []
same_members [] (y ∷ ys) d e h = absurd (true≢false (sym (h y ∙ ap (λ t. t || has_row y ys) (same_row-equiv.refl y))))
same_members (x ∷ xs) ys d e h =
    let there : has_row x ys ≡ true = sym (h x) ∙ ap (λ t. t || has_row x xs) (same_row-equiv.refl x) in
    let one : filter (same_row x) ys ≡ x ∷ [] = only x ys e ∙ ap (λ t. cond t (x ∷ []) []) there in
    let rest = same_members xs (others x ys) d.1 (keeps_distinct (λ other. not (same_row x other)) ys e) (member x xs ys d.0 h) in
    let split = IsPermutation-filter_both (same_row x) (λ other. not (same_row x other)) (λ other. refl) ys in
    IsPermutation-trans (x ∷ xs) (x ∷ others x ys) ys (IsPermutation-cons x xs (others x ys) rest)
    (IsPermutation-sym ys (x ∷ others x ys) (subst (λ l. IsPermutation ys (l ++ others x ys)) one split))

pub distinct_permuted : (xs ys : List Row) → IsPermutation xs ys → IsPermutation (distinct xs) (distinct ys)
distinct_permuted xs ys h =
    same_members (distinct xs) (distinct ys) (distinct_is xs) (distinct_is ys)
    (λ k. has_distinct k xs ∙ list_any-IsPermutation (same_row k) xs ys h ∙ sym (has_distinct k ys))
