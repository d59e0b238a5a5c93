-- Long data by its holes.
use Rattle.std.proofs.Common.{◌≡◌, ℕ, zero, suc, ◌+◌, ◌<◌, ◌≤◌, List, [], ◌∷◌, ◌++◌, length, take, drop, Option, Some, None, refl, ap, sym, ◌∙◌, arith}
use Rattle.std.specs.Prelude.{slice_index_or, slice_set}
use Rattle.std.proofs.lemmas.List.{length-append}
use Rattle.std.proofs.lemmas.List.Sums.{sum_by-cons}
use Rattle.prepared_statements.specs.Holes.{appended, no_long, none_each, no_values, put_long, long_size, all_long}

pub cleared_next : (k : ℕ) (xs : List (Option (List ℕ))) → k < length xs
    → slice_set (no_long (take k xs) ++ drop k xs) k None ≡ no_long (take (suc k) xs) ++ drop (suc k) xs
cleared_next k [] lt = absurd (omega (arith, lt))
cleared_next zero (x ∷ xs) lt = refl
cleared_next (suc k) (x ∷ xs) lt = ap (λ (l : List (Option (List ℕ))). None ∷ l) (cleared_next k xs (omega (arith, lt)))

pub cleared_all : (k : ℕ) (xs : List (Option (List ℕ))) → length xs ≤ k → no_long (take k xs) ++ drop k xs ≡ no_long xs
cleared_all zero [] le = refl
cleared_all (suc k) [] le = refl
cleared_all zero (x ∷ xs) le = absurd (omega (arith, le))
cleared_all (suc k) (x ∷ xs) le = ap (λ (l : List (Option (List ℕ))). None ∷ l) (cleared_all k xs (omega (arith, le)))

pub cleared_length : (k : ℕ) (xs : List (Option (List ℕ))) → length (no_long (take k xs) ++ drop k xs) ≡ length xs
cleared_length zero xs = refl
cleared_length (suc k) [] = refl
cleared_length (suc k) (x ∷ xs) = ap suc (cleared_length k xs)

pub put_long_is : (long : List (Option (List ℕ))) (hole : ℕ) (more : List ℕ) (come : Option (List ℕ)) → hole < length long → come ≡ slice_index_or long hole come
    → slice_set long hole (appended come more) ≡ put_long long hole more
put_long_is [] hole more come lt is = absurd (omega (arith, lt))
put_long_is (x ∷ xs) zero more come lt is = ap (λ (y : Option (List ℕ)). appended y more ∷ xs) is
put_long_is (x ∷ xs) (suc hole) more come lt is = ap (λ (l : List (Option (List ℕ))). x ∷ l) (put_long_is xs hole more come (omega (arith, lt)) is)

-- as many holes are cleared alike
pub cleared_alike : (xs ys : List (Option (List ℕ))) → length xs ≡ length ys → no_long xs ≡ no_long ys
cleared_alike [] [] e = refl
cleared_alike [] (y ∷ ys) e = absurd (omega (arith, e))
cleared_alike (x ∷ xs) [] e = absurd (omega (arith, e))
cleared_alike (x ∷ xs) (y ∷ ys) e = ap (λ (l : List (Option (List ℕ))). None ∷ l) (cleared_alike xs ys (omega (arith, e)))

-- ---- how much came

pub none_long : (xs : List (Option (List ℕ))) → all_long (no_long xs) ≡ 0
none_long [] = refl
none_long (x ∷ xs) = omega (arith, sum_by-cons long_size None (no_long xs), none_long xs)

each_none : (pieces : List (List ℕ)) → all_long (none_each pieces) ≡ 0
each_none [] = refl
each_none (p ∷ pieces) = omega (arith, sum_by-cons long_size None (none_each pieces), each_none pieces)

pub values_none : (pieces : List (List ℕ)) → all_long (no_values pieces) ≡ 0
values_none [] = refl
values_none (p ∷ pieces) = each_none pieces

appended_size : (come : Option (List ℕ)) (more : List ℕ) → long_size (appended come more) ≡ long_size come + length more
appended_size None more = omega arith
appended_size (Some come) more = length-append come more

pub put_size : (long : List (Option (List ℕ))) (hole : ℕ) (more : List ℕ) → hole < length long → all_long (put_long long hole more) ≡ all_long long + length more
put_size [] hole more lt = absurd (omega (arith, lt))
put_size (x ∷ xs) zero more lt =
    omega (arith, sum_by-cons long_size (appended x more) xs, appended_size x more, sum_by-cons long_size x xs)
put_size (x ∷ xs) (suc hole) more lt =
    omega (arith, sum_by-cons long_size x (put_long xs hole more), put_size xs hole more (omega (arith, lt)), sum_by-cons long_size x xs)
