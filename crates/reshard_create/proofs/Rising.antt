-- Ranges in the order of their begins.
use Rattle.std.proofs.Common.{◌≡◌, ◌+◌, ◌<◌, List, [], ◌∷◌, length, map, get_or, ap, ◌∙◌, arith, IsSorted}
use Rattle.std.specs.Ordering.{is_lt}
use Rattle.std.specs.Fn.{Called}
use Rattle.std.specs.List.Sorted.{IsSortedByClosure, IsSortedBy}
use Rattle.std.specs.declared.cmp.Ordering.{Ordering}
use Rattle.std.proofs.lemmas.Fn.{always_returns_same}
use Rattle.std.proofs.lemmas.Cmp.{nat_list_cmp_total}
use Rattle.std.proofs.lemmas.List.{length-map}
use Rattle.std.proofs.lemmas.List.MinMax.{ranks_by}
use denote.Param.Members.{Mut}
use denote.Ref.{Bor}
use Rattle.keyrange.specs.declared.KeyRange.{KeyRange}
use Rattle.reshard_create.specs.split.Choices.{begin_cmp}
use Rattle.reshard_create.proofs.split.Lists.{get_map}

-- a sort by a closure that compares the begins of ranges
pub sorted_by_begins : {X F : Type 0} {g : Mut F (Bor X × (Bor X × Unit {0})) Ordering} {f : F} (range : X → KeyRange) (xs : List X) → IsSortedByClosure g f xs
    → ((a : Bor X × (Bor X × Unit {0})) (r : Ordering) (f' : F) → Called g f a r f' → (r ≡ begin_cmp (range a.0.now) (range a.1.0.now)) × (f' ≡ f))
    → IsSortedBy (λ a b. is_lt (begin_cmp (range a) (range b))) xs
sorted_by_begins {g = g} {f = f} range xs up h = up (λ a b. is_lt (begin_cmp (range a) (range b))) (ranks_by nat_list_cmp_total (λ x. (range x).begin))
    (always_returns_same g (λ a r. is_lt r ≡ is_lt (begin_cmp (range a.0.now) (range a.1.0.now))) f (λ a r f' k. (ap is_lt (h a r f' k).0, (h a r f' k).1)))

-- so the ranges are sorted
pub ranges_rise : {X : Type 0} (range : X → KeyRange) (xs : List X) → IsSortedBy (λ a b. is_lt (begin_cmp (range a) (range b))) xs → IsSorted begin_cmp (map range xs)
ranges_rise range [] up k d low high = absurd (omega (arith, high))
ranges_rise range (x ∷ xs) up k d low high =
    let there : k + 1 < length (x ∷ xs) = (let l = length-map (x ∷ xs) range in omega (arith, high, l)) in
    ap (λ (r : KeyRange). is_lt (begin_cmp r (get_or (map range (x ∷ xs)) k d))) (get_map range (x ∷ xs) (k + 1) d x there)
    ∙ ap (λ (r : KeyRange). is_lt (begin_cmp (range (get_or (x ∷ xs) (k + 1) x)) r)) (get_map range (x ∷ xs) k d x (omega (arith, there)))
    ∙ up k x low there
