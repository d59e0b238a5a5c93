-- Values in their order.
use Rattle.std.proofs.Common.{◌≡◌, suc, ◌+◌, false, List, [], ◌∷◌, map, get_or, Bor, sym, ap, ◌∙◌, subst, arith}
use Rattle.std.specs.Prelude.{IsSorted, IsPermutation}
use Rattle.std.specs.List.Sorted.{IsSortedByClosure}
use Rattle.std.specs.Fn.{Called}
use Rattle.std.specs.Ordering.{is_eq, is_lt}
use Rattle.std.specs.declared.cmp.Ordering.{Ordering}
use Rattle.std.proofs.lemmas.Fn.{always_returns_same}
use Rattle.std.proofs.lemmas.List.Sorted.{ranks_by, IsPermutation-map, list_any-IsPermutation}
use denote.Param.Members.{Mut}
use Rattle.vt_value.specs.declared.value.Value.{Value}
use Rattle.vt_value.specs.Values.{value_cmp}
use Rattle.sql_eval.proofs.OrderLemmas.{value_cmp-total}
use Rattle.key_intervals.specs.Listed.{is_among, Climbs}

climbing : (xs : List (Bor Value)) → IsSorted (λ (a : Bor Value) (b : Bor Value). value_cmp a.now b.now) xs → Climbs (map (λ (b : Bor Value). b.now) xs)
climbing [] up = tt
climbing (x ∷ []) up = tt
climbing (x ∷ y ∷ xs) up = (
  up 0 x (omega arith) (omega arith),
  climbing (y ∷ xs) (λ k d low within.
      let same : suc k + 1 ≡ suc (k + 1) = omega arith in
      subst (λ m. is_lt (value_cmp (get_or (x ∷ y ∷ xs) m d).now (get_or (x ∷ y ∷ xs) (suc k) d).now) ≡ false) same
      (up (suc k) d (omega arith) (omega (arith, within)))),
)

-- a sort by a closure that compares values
pub sorted_values : {F : Type 0} {g : Mut F (Bor (Bor Value) × (Bor (Bor Value) × Unit {0})) Ordering} {f : F} (xs : List (Bor Value)) → IsSortedByClosure g f xs
    → ((a : Bor (Bor Value) × (Bor (Bor Value) × Unit {0})) (r : Ordering) (f' : F) → Called g f a r f' → (r ≡ value_cmp a.0.now.now a.1.0.now.now) × (f' ≡ f))
    → Climbs (map (λ (b : Bor Value). b.now) xs)
sorted_values {g = g} {f = f} xs up h =
    climbing xs (up (λ a b. is_lt (value_cmp a.now b.now)) (ranks_by value_cmp-total (λ (b : Bor Value). b.now))
    (always_returns_same g (λ a r. is_lt r ≡ is_lt (value_cmp a.0.now.now a.1.0.now.now)) f (λ a r f' k. (ap is_lt (h a r f' k).0, (h a r f' k).1))))

pub same_values : (xs ys : List (Bor Value)) (values : List Value) (x : Value) → IsPermutation xs ys → map (λ (b : Bor Value). b.now) xs ≡ values
    → is_among (map (λ (b : Bor Value). b.now) ys) x ≡ is_among values x
same_values xs ys values x h is =
    sym (list_any-IsPermutation (λ v. is_eq (value_cmp v x)) (map (λ (b : Bor Value). b.now) xs) (map (λ (b : Bor Value). b.now) ys)
    (IsPermutation-map (λ (b : Bor Value). b.now) xs ys h)) ∙ ap (λ (vs : List Value). is_among vs x) is
