-- Pairs of rows, of more rows, and of rows in another order.
use Rattle.std.proofs.Common.{◌≡◌, ℕ, ◌*◌, ◌≤◌, Bool, true, false, List, [], ◌∷◌, ◌++◌, length, map, filter, IsPermutation, Option, Some, None, refl, sym, ap, subst, ◌∙◌, arith, append_assoc, length-append}
use Rattle.std.specs.List.{AllByRecursion}
use Rattle.std.proofs.lemmas.List.{append-nil, map-append, length-map}
use Rattle.std.proofs.lemmas.List.Elements.{filter-append}
use Rattle.std.proofs.lemmas.List.Sorted.{IsPermutation-refl, IsPermutation-trans, IsPermutation-append, IsPermutation-append_left, IsPermutation-append_right, IsPermutation-append_comm, IsPermutation-map}
use Rattle.vt_value.specs.Values.{Row}
use Rattle.vschema.specs.declared.schema.Join.{Join}
use Rattle.vschema.specs.declared.schema.Query.{Query}
use Rattle.vschema.specs.Database.{Database, rows_of}
use Rattle.vschema.specs.Sources.{is_pair, paired, pairs_of, with_pairs, source_rows, join_tables, source_tables}
use Rattle.sql_eval.proofs.GroupLemmas.{filter_short}
use Rattle.sql_eval.proofs.Permutations.{IsPermutation-flat_map, IsPermutation-filter}

pub all_join : {X : Type 0} (P : X → Type 0) (xs ys : List X) → AllByRecursion P xs → AllByRecursion P ys → AllByRecursion P (xs ++ ys)
all_join P [] ys a b = b
all_join P (x ∷ xs) ys a b = (a.0, all_join P xs ys a.1 b)

-- more first rows
pub pairs-append : (j : Join) (xs ys seconds : List Row) → pairs_of j (xs ++ ys) seconds ≡ pairs_of j xs seconds ++ pairs_of j ys seconds
pairs-append j [] ys seconds = refl
pairs-append j (a ∷ xs) ys seconds =
    ap (λ l. map (paired j a) (filter (is_pair j a) seconds) ++ l) (pairs-append j xs ys seconds)
    ∙ sym (append_assoc (map (paired j a) (filter (is_pair j a) seconds)) (pairs_of j xs seconds) (pairs_of j ys seconds))

with_more : (j : Join) (a : Row) (xs ys : List Row)
    → map (paired j a) (filter (is_pair j a) (xs ++ ys)) ≡ map (paired j a) (filter (is_pair j a) xs) ++ map (paired j a) (filter (is_pair j a) ys)
with_more j a xs ys = ap (map (paired j a)) (filter-append (is_pair j a) xs ys) ∙ map-append (paired j a) (filter (is_pair j a) xs) (filter (is_pair j a) ys)

-- two lists in the middle change places
exchanged : (a b c d : List Row) → IsPermutation ((a ++ b) ++ (c ++ d)) ((a ++ c) ++ (b ++ d))
exchanged a b c d =
    subst (λ l. IsPermutation l ((a ++ c) ++ (b ++ d))) (sym (append_assoc a b (c ++ d)))
    (subst (IsPermutation (a ++ (b ++ (c ++ d)))) (sym (append_assoc a c (b ++ d)))
    (IsPermutation-append_right a (b ++ (c ++ d)) (c ++ (b ++ d))
    (subst (λ l. IsPermutation l (c ++ (b ++ d))) (append_assoc b c d)
    (subst (IsPermutation ((b ++ c) ++ d)) (append_assoc c b d) (IsPermutation-append_left d (b ++ c) (c ++ b) (IsPermutation-append_comm b c))))))

-- more second rows
pub pairs_more : (j : Join) (xs us vs : List Row) → IsPermutation (pairs_of j xs (us ++ vs)) (pairs_of j xs us ++ pairs_of j xs vs)
pairs_more j [] us vs = IsPermutation-refl []
pairs_more j (a ∷ xs) us vs =
    let p = map (paired j a) (filter (is_pair j a) us) in
    let q = map (paired j a) (filter (is_pair j a) vs) in
    subst (λ l. IsPermutation (l ++ pairs_of j xs (us ++ vs)) ((p ++ pairs_of j xs us) ++ (q ++ pairs_of j xs vs))) (sym (with_more j a us vs))
    (IsPermutation-trans _ _ _ (IsPermutation-append_right (p ++ q) (pairs_of j xs (us ++ vs)) (pairs_of j xs us ++ pairs_of j xs vs) (pairs_more j xs us vs))
    (exchanged p q (pairs_of j xs us) (pairs_of j xs vs)))

-- no row of the first is a pair with one of the others
abbrev pub NoPairs : Join → List Row → List Row → Type 0
NoPairs j xs ys = AllByRecursion (λ a. AllByRecursion (λ b. is_pair j a b ≡ false) ys) xs

none_left : (j : Join) (a : Row) (ys : List Row) → AllByRecursion (λ b. is_pair j a b ≡ false) ys → filter (is_pair j a) ys ≡ []
none_left j a [] all = refl
none_left j a (b ∷ ys) all = let e = all.0 in rw e (none_left j a ys all.1)

pub no_pairs : (j : Join) (xs ys : List Row) → NoPairs j xs ys → pairs_of j xs ys ≡ []
no_pairs j [] ys none = refl
no_pairs j (a ∷ xs) ys none =
    ap (λ l. map (paired j a) l ++ pairs_of j xs ys) (none_left j a ys none.0) ∙ no_pairs j xs ys none.1

-- the pairs of the rows of two places are those of each, where none is across
pub pairs_apart : (j : Join) (xs ys us vs : List Row) → NoPairs j xs vs → NoPairs j ys us
    → IsPermutation (pairs_of j (xs ++ ys) (us ++ vs)) (pairs_of j xs us ++ pairs_of j ys vs)
pairs_apart j xs ys us vs across back =
    let first : IsPermutation (pairs_of j xs (us ++ vs)) (pairs_of j xs us) =
    subst (IsPermutation (pairs_of j xs (us ++ vs))) (ap (λ l. pairs_of j xs us ++ l) (no_pairs j xs vs across) ∙ append-nil (pairs_of j xs us)) (pairs_more j xs us vs)
    in
    let second : IsPermutation (pairs_of j ys (us ++ vs)) (pairs_of j ys vs) =
    subst (IsPermutation (pairs_of j ys (us ++ vs))) (ap (λ l. l ++ pairs_of j ys vs) (no_pairs j ys us back)) (pairs_more j ys us vs)
    in
    subst (λ l. IsPermutation l (pairs_of j xs us ++ pairs_of j ys vs)) (sym (pairs-append j xs ys (us ++ vs)))
    (IsPermutation-append (pairs_of j xs (us ++ vs)) (pairs_of j xs us) (pairs_of j ys (us ++ vs)) (pairs_of j ys vs) first second)

-- rows that lie in two places with no id in common are no pair
apart_one : (j : Join) (id other : Row → List ℕ) → ((a b : Row) → is_pair j a b ≡ true → id a ≡ other b) → (p q : List ℕ → Bool)
    → ((i : List ℕ) → p i ≡ true → q i ≡ true → ⊥) → (a b : Row) → p (id a) ≡ true → q (other b) ≡ true → is_pair j a b ≡ false
apart_one j id other same p q apart a b here there = by (is_pair j a b) refl
  where
    by : (t : Bool) → is_pair j a b ≡ t → t ≡ false
    by true e = absurd (apart (id a) here (subst (λ i. q i ≡ true) (sym (same a b e)) there))
    by false e = refl

apart_row : (j : Join) (id other : Row → List ℕ) → ((a b : Row) → is_pair j a b ≡ true → id a ≡ other b) → (p q : List ℕ → Bool)
    → ((i : List ℕ) → p i ≡ true → q i ≡ true → ⊥) → (a : Row) (ys : List Row) → p (id a) ≡ true → AllByRecursion (λ b. q (other b) ≡ true) ys
    → AllByRecursion (λ b. is_pair j a b ≡ false) ys
apart_row j id other same p q apart a [] here there = tt
apart_row j id other same p q apart a (b ∷ ys) here there =
    (apart_one j id other same p q apart a b here there.0, apart_row j id other same p q apart a ys here there.1)

pub apart_rows : (j : Join) (id other : Row → List ℕ) → ((a b : Row) → is_pair j a b ≡ true → id a ≡ other b) → (p q : List ℕ → Bool)
    → ((i : List ℕ) → p i ≡ true → q i ≡ true → ⊥) → (xs ys : List Row) → AllByRecursion (λ a. p (id a) ≡ true) xs → AllByRecursion (λ b. q (other b) ≡ true) ys
    → NoPairs j xs ys
apart_rows j id other same p q apart [] ys here there = tt
apart_rows j id other same p q apart (a ∷ xs) ys here there =
    (apart_row j id other same p q apart a ys here.0 there, apart_rows j id other same p q apart xs ys here.1 there)

pub no_pairs-append : (j : Join) (xs ys zs : List Row) → NoPairs j xs ys → NoPairs j xs zs → NoPairs j xs (ys ++ zs)
no_pairs-append j [] ys zs f g = tt
no_pairs-append j (a ∷ xs) ys zs f g = (all_join (λ b. is_pair j a b ≡ false) ys zs f.0 g.0, no_pairs-append j xs ys zs f.1 g.1)

-- pairs of the same rows in another order
pub pairs_permuted : (j : Join) (xs ys us vs : List Row) → IsPermutation xs ys → IsPermutation us vs → IsPermutation (pairs_of j xs us) (pairs_of j ys vs)
pairs_permuted j xs ys us vs first second =
    IsPermutation-trans (pairs_of j xs us) (pairs_of j xs vs) (pairs_of j ys vs) (seconds xs)
    (IsPermutation-flat_map (λ a. map (paired j a) (filter (is_pair j a) vs)) xs ys first)
  where
    seconds : (xs : List Row) → IsPermutation (pairs_of j xs us) (pairs_of j xs vs)
    seconds [] = IsPermutation-refl []
    seconds (a ∷ xs) =
        IsPermutation-append (map (paired j a) (filter (is_pair j a) us)) (map (paired j a) (filter (is_pair j a) vs)) (pairs_of j xs us) (pairs_of j xs vs)
        (IsPermutation-map (paired j a) (filter (is_pair j a) us) (filter (is_pair j a) vs) (IsPermutation-filter (is_pair j a) us vs second)) (seconds xs)

-- at most as many pairs as there are rows of both, multiplied
pub few_pairs : (j : Join) (xs ys : List Row) → length (pairs_of j xs ys) ≤ length xs * length ys
few_pairs j [] ys = omega arith
few_pairs j (a ∷ xs) ys =
    let here = filter_short (is_pair j a) ys in
    let more = few_pairs j xs ys in
    omega (arith, here, more, length-map (filter (is_pair j a) ys) (paired j a), length-append (map (paired j a) (filter (is_pair j a) ys)) (pairs_of j xs ys))

-- databases with the same bags in the tables that a query is over give it the same bag
pub source_permuted : (q : Query) (a b : Database) → AllByRecursion (λ n. IsPermutation (rows_of a n) (rows_of b n)) (source_tables q)
    → IsPermutation (source_rows q a) (source_rows q b)
source_permuted q a b same = by q.join same.1
  where
    by : (join : Option Join) → AllByRecursion (λ n. IsPermutation (rows_of a n) (rows_of b n)) (join_tables join)
        → IsPermutation (with_pairs join (rows_of a q.table) a) (with_pairs join (rows_of b q.table) b)
    by None second = same.0
    by (Some j) second = pairs_permuted j (rows_of a q.table) (rows_of b q.table) (rows_of a j.table) (rows_of b j.table) same.0 second.0
