-- Databases with the same rows in another order: as many, of the same kinds, and so they stay by the same changes.
use Rattle.std.proofs.Common.{◌≡◌, ℕ, suc, ◌<◌, List, [], ◌∷◌, length, refl, sym, ap, ◌∙◌, subst, arith}
use Rattle.std.specs.List.{AllByRecursion}
use Rattle.std.proofs.lemmas.List.Elements.{recursion_from_All, All-from_recursion}
use Rattle.std.proofs.lemmas.List.Sorted.{IsPermutation-refl, IsPermutation-sym, IsPermutation-trans, All-permutation, length_permutation}
use Rattle.std.proofs.lemmas.List.Sums.{sum_by-cons}
use Rattle.vt_value.specs.Values.{Row}
use Rattle.vschema.specs.declared.changes.RowChange.{RowChange}
use Rattle.vschema.specs.Database.{Database, SameRows, rows_of, all_applied}
use Rattle.shard_law.specs.Openings.{row_count}
use Rattle.shard_store.proofs.ChangeLemmas.{rows-same}
use Rattle.shard_law.proofs.Counts.{count-all_applied, count-permuted, tally, same_by_count}
use Rattle.shard_law.proofs.Databases.{length-all_applied}

pub same_self : (a : Database) → SameRows a a
same_self [] = tt
same_self (xs ∷ a) = (IsPermutation-refl xs, same_self a)

pub same_is : (a b : Database) → a ≡ b → SameRows a b
same_is a b e = subst (SameRows a) e (same_self a)

pub same_back : (a b : Database) → SameRows a b → SameRows b a
same_back [] [] h = tt
same_back [] (ys ∷ b) h = absurd h
same_back (xs ∷ a) [] h = absurd h
same_back (xs ∷ a) (ys ∷ b) h = (IsPermutation-sym xs ys h.0, same_back a b h.1)

pub same_through : (a b c : Database) → SameRows a b → SameRows b c → SameRows a c
same_through [] [] c h g = g
same_through [] (ys ∷ b) c h g = absurd h
same_through (xs ∷ a) [] c h g = absurd h
same_through (xs ∷ a) (ys ∷ b) [] h g = absurd g
same_through (xs ∷ a) (ys ∷ b) (zs ∷ c) h g = (IsPermutation-trans xs ys zs h.0 g.0, same_through a b c h.1 g.1)

pub length-same : (a b : Database) → SameRows a b → length a ≡ length b
length-same [] [] h = refl
length-same [] (ys ∷ b) h = absurd h
length-same (xs ∷ a) [] h = absurd h
length-same (xs ∷ a) (ys ∷ b) h = ap suc (length-same a b h.1)

pub row_count-same : (a b : Database) → SameRows a b → row_count a ≡ row_count b
row_count-same [] [] h = refl
row_count-same [] (ys ∷ b) h = absurd h
row_count-same (xs ∷ a) [] h = absurd h
row_count-same (xs ∷ a) (ys ∷ b) h =
    let first = length_permutation xs ys h.0 in
    let rest = row_count-same a b h.1 in
    let left = sum_by-cons length xs a in
    let right = sum_by-cons length ys b in
    omega (arith, first, rest, left, right)

pub rows_all : (P : Row → Type 0) (a b : Database) → SameRows a b → (n : ℕ) → AllByRecursion P (rows_of b n) → AllByRecursion P (rows_of a n)
rows_all P a b h n all =
    recursion_from_All P (rows_of a n)
    (All-permutation P (rows_of b n) (rows_of a n) (IsPermutation-sym (rows_of a n) (rows_of b n) (rows-same a b h n)) (All-from_recursion P (rows_of b n) all))

-- changes don't see the order of the rows
pub all_applied-same : (changes : List RowChange) (a b : Database) → SameRows a b → SameRows (all_applied changes a) (all_applied changes b)
all_applied-same changes a b h =
    same_by_count (all_applied changes a) (all_applied changes b) (long a ∙ length-same a b h ∙ sym (long b))
    (λ r n there.
    let left : n < length a = subst (λ (k : ℕ). n < k) (long a) there in
    let right : n < length b = subst (λ (k : ℕ). n < k) (length-same a b h) left in
    count-all_applied r n changes a left ∙ ap (tally r n changes) (sym (count-permuted r (rows_of a n) (rows_of b n) (rows-same a b h n)))
    ∙ sym (count-all_applied r n changes b right))
  where
    long : (db : Database) → length (all_applied changes db) ≡ length db
    long db = length-all_applied changes db
