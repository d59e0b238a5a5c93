-- The memory of a cutover: the lists of the targets, and the next partition.
use Rattle.std.proofs.Common.{◌≡◌, ℕ, ◌+◌, ◌<◌, Bool, true, false, cond, List, [], ◌∷◌, ◌++◌, length, filter, map, take, get_or, refl, sym, ap, ◌∙◌, arith}
use Rattle.std.specs.Prelude.{IsPermutation}
use Rattle.std.proofs.lemmas.List.{take_more, map-append}
use Rattle.std.proofs.lemmas.List.Sorted.{sum_by-IsPermutation, length_permutation, IsPermutation-map}
use Rattle.keyrange.specs.Names.{IsNamed}
use Rattle.serving.specs.Partitions.{Seat, IsPartition, ranges}
use Rattle.reshard_cutover.proofs.Permuted.{all_permuted}

-- in another order it is a partition too
pub partition_permuted : (xs ys : List Seat) → IsPermutation xs ys → IsPartition xs → IsPartition ys
partition_permuted xs ys perm is =
    let of_ranges = IsPermutation-map (λ (s : Seat). s.1) xs ys perm in
    record {
      named = all_permuted IsNamed (ranges xs) (ranges ys) of_ranges is.named;
      whole = λ id bytes. sum_by-IsPermutation _ (ranges xs) (ranges ys) of_ranges ∙ is.whole id bytes;
      few = let l = length_permutation xs ys perm in let f = is.few in omega (arith, l, f);
    }

pub next_item : {X : Type 0} (xs : List X) (i : ℕ) (x : X) → i < length xs → x ≡ get_or xs i x → take (i + 1) xs ≡ take i xs ++ x ∷ []
next_item xs i x there is = take_more xs i x there ∙ ap (λ y. take i xs ++ y ∷ []) (sym is)

-- the next one of a list, seen through a map
pub map_next : {X Y : Type 0} (f : X → Y) (xs : List X) (i : ℕ) (x : X) (ys new : List Y) (y : Y) → i < length xs → x ≡ get_or xs i x → ys ≡ map f (take i xs)
    → new ≡ ys ++ y ∷ [] → y ≡ f x → new ≡ map f (take (i + 1) xs)
map_next {Y} f xs i x ys new y there is so_far grown one =
    grown ∙ ap (λ (l : List Y). l ++ y ∷ []) so_far ∙ ap (λ (z : Y). map f (take i xs) ++ z ∷ []) one
    ∙ sym (map-append f (take i xs) (x ∷ [])) ∙ ap (map f) (sym (next_item xs i x there is))

filter-append : {X : Type 0} (p : X → Bool) (xs ys : List X) → filter p (xs ++ ys) ≡ filter p xs ++ filter p ys
filter-append p [] ys = refl
filter-append p (x ∷ xs) ys = by (p x) (filter-append p xs ys)
  where
    by : (b : Bool) → filter p (xs ++ ys) ≡ filter p xs ++ filter p ys
        → cond b (x ∷ filter p (xs ++ ys)) (filter p (xs ++ ys)) ≡ cond b (x ∷ filter p xs) (filter p xs) ++ filter p ys
    by true e = ap (λ l. x ∷ l) e
    by false e = e

-- the same of those that pass a test
module _ {X Y : Type 0} (p : Y → Bool) (f : X → Y) (xs : List X) (i : ℕ) (x : X) (there : i < length xs) (is : x ≡ get_or xs i x) (ys : List Y)
    (so_far : ys ≡ filter p (map f (take i xs))) where
  more : filter p (map f (take (i + 1) xs)) ≡ filter p (map f (take i xs)) ++ cond (p (f x)) (f x ∷ []) []
  more =
      ap (λ (l : List X). filter p (map f l)) (next_item xs i x there is) ∙ ap (filter p) (map-append f (take i xs) (x ∷ []))
      ∙ filter-append p (map f (take i xs)) (f x ∷ [])

  pub passed_next : (new : List Y) (y : Y) → p (f x) ≡ true → new ≡ ys ++ y ∷ [] → y ≡ f x → new ≡ filter p (map f (take (i + 1) xs))
  passed_next new y passes grown one =
      grown ∙ ap (λ (z : Y). ys ++ z ∷ []) one ∙ ap (λ (l : List Y). l ++ f x ∷ []) so_far
      ∙ ap (λ (b : Bool). filter p (map f (take i xs)) ++ cond {A = List Y} b (f x ∷ []) []) (sym passes) ∙ sym more

  pub failed_next : p (f x) ≡ false → ys ≡ filter p (map f (take (i + 1) xs))
  failed_next fails =
      so_far ∙ sym (Rattle.std.proofs.lemmas.List.append-nil (filter p (map f (take i xs))))
      ∙ ap (λ (b : Bool). filter p (map f (take i xs)) ++ cond {A = List Y} b (f x ∷ []) []) (sym fails) ∙ sym more
