-- The parts of MIN and MAX.
use Rattle.std.proofs.Common.{◌≡◌, Bool, true, false, List, [], ◌∷◌, Option, Some, None, refl, sym, ap, ◌∙◌, if◌then◌else◌, unwrap_or, true≢false}
use Rattle.std.specs.Cmp.{IsTotalOrder}
use Rattle.std.specs.Ordering.{is_lt, is_gt, ordering_reverse, flip_args}
use Rattle.std.specs.declared.cmp.Ordering.{Ordering}
use Rattle.std.specs.declared.cmp.Ordering.TheVariants.{Less, Equal, Greater}
use Rattle.std.proofs.lemmas.Cmp.{upto, tied_itself, back_total}
use Rattle.vt_value.specs.declared.value.Value.{Value}
use Rattle.vt_value.specs.declared.value.Value.TheVariants.{Null, Int, Bytes}
use Rattle.vt_value.specs.Values.{value_cmp}
use Rattle.operators.proofs.OrderLemmas.{value_cmp-total, value_cmp-same}
use Rattle.aggregate.specs.Aggregates.{present, lesser, greater, least_of, greatest_of}
use Rattle.aggregate.specs.Laws.{PartLaws}
use Rattle.aggregate.specs.Parts.{gathered, join_options, present_value}
use Rattle.aggregate.specs.inner.PartLemmas.{gathered-laws, options_monoid}

module _ {K : Type 0} {R : K → K → Ordering} (order : IsTotalOrder R) (same : (a b : K) → R a b ≡ Equal → a ≡ b) where
  abbrev least : K → K → K
  least a b = if is_lt (R b a) then b else a

  abbrev IsBelow : K → K → Type 0
  IsBelow a b = is_gt (R a b) ≡ false

  itself : (a : K) → IsBelow a a
  itself a = ap is_gt (tied_itself order a)

  both_by : (a b : K) (r : Ordering) → R a b ≡ r → is_gt r ≡ false → is_gt (ordering_reverse r) ≡ false → a ≡ b
  both_by a b Less e p q = absurd (true≢false q)
  both_by a b Equal e p q = same a b e
  both_by a b Greater e p q = absurd (true≢false p)

  both : (a b : K) → IsBelow a b → IsBelow b a → a ≡ b
  both a b p q = both_by a b (R a b) refl p (ap is_gt (sym (order.antisymm b a)) ∙ q)

  first_by : (a b : K) (r : Ordering) → R b a ≡ r → IsBelow (if is_lt r then b else a) a
  first_by a b Less e = ap is_gt e
  first_by a b Equal e = itself a
  first_by a b Greater e = itself a

  below_first : (a b : K) → IsBelow (least a b) a
  below_first a b = first_by a b (R b a) refl

  second_by : (a b : K) (r : Ordering) → R b a ≡ r → IsBelow (if is_lt r then b else a) b
  second_by a b Less e = itself b
  second_by a b Equal e = ap is_gt (order.antisymm a b) ∙ ap (λ (o : Ordering). is_gt (ordering_reverse o)) e
  second_by a b Greater e = ap is_gt (order.antisymm a b) ∙ ap (λ (o : Ordering). is_gt (ordering_reverse o)) e

  below_second : (a b : K) → IsBelow (least a b) b
  below_second a b = second_by a b (R b a) refl

  above_by : (a b c : K) (t : Bool) → IsBelow c a → IsBelow c b → IsBelow c (if t then b else a)
  above_by a b c true p q = q
  above_by a b c false p q = p

  above : (a b c : K) → IsBelow c a → IsBelow c b → IsBelow c (least a b)
  above a b c = above_by a b c (is_lt (R b a))

  pub least_comm : (a b : K) → least a b ≡ least b a
  least_comm a b =
      both (least a b) (least b a) (above b a (least a b) (below_second a b) (below_first a b)) (above a b (least b a) (below_second b a) (below_first b a))

  pub least_assoc : (a b c : K) → least (least a b) c ≡ least a (least b c)
  least_assoc a b c =
      let left = least (least a b) c in
      let right = least a (least b c) in
      let left_a = upto order left (least a b) a (below_first (least a b) c) (below_first a b) in
      let left_b = upto order left (least a b) b (below_first (least a b) c) (below_second a b) in
      let right_b = upto order right (least b c) b (below_second a (least b c)) (below_first b c) in
      let right_c = upto order right (least b c) c (below_second a (least b c)) (below_second b c) in
      both left right (above a (least b c) left left_a (above b c left left_b (below_second (least a b) c)))
      (above (least a b) c right (above a b right (below_first a (least b c)) right_b) right_c)

-- the part of values is the best of those that are not NULL
module _ (op : Value → Value → Value) (best : List Value → Value) (of_one : (v : Value) → best (v ∷ []) ≡ v)
    (of_more : (v w : Value) (vs : List Value) → best (v ∷ w ∷ vs) ≡ op v (best (w ∷ vs))) where
  abbrev best_kept : List Value → Option Value
  best_kept [] = None
  best_kept (v ∷ vs) = Some (best (v ∷ vs))

  one_more : (v : Value) (vs : List Value) → join_options op (Some v) (best_kept vs) ≡ best_kept (v ∷ vs)
  one_more v [] = ap Some (sym (of_one v))
  one_more v (w ∷ vs) = ap Some (sym (of_more v w vs))

  pub best_is : (vs : List Value) → gathered (join_options op) None present_value vs ≡ best_kept (present vs)
  best_is [] = refl
  best_is (Null ∷ vs) = best_is vs
  best_is (Int n ∷ vs) = ap (join_options op (Some (Int n))) (best_is vs) ∙ one_more (Int n) (present vs)
  best_is (Bytes t ∷ vs) = ap (join_options op (Some (Bytes t))) (best_is vs) ∙ one_more (Bytes t) (present vs)

pub min_laws : PartLaws (gathered (join_options lesser) None present_value) (join_options lesser)
min_laws = gathered-laws (options_monoid lesser (least_assoc value_cmp-total value_cmp-same) (least_comm value_cmp-total value_cmp-same)) present_value

same_back : (a b : Value) → flip_args value_cmp a b ≡ Equal → a ≡ b
same_back a b e = sym (value_cmp-same b a e)

pub max_laws : PartLaws (gathered (join_options greater) None present_value) (join_options greater)
max_laws =
    gathered-laws (options_monoid greater (least_assoc (back_total value_cmp-total) same_back) (least_comm (back_total value_cmp-total) same_back)) present_value

least_kept : (vs : List Value) → unwrap_or (best_kept lesser least_of (λ v. refl) (λ v w vs. refl) vs) Null ≡ least_of vs
least_kept [] = refl
least_kept (v ∷ vs) = refl

greatest_kept : (vs : List Value) → unwrap_or (best_kept greater greatest_of (λ v. refl) (λ v w vs. refl) vs) Null ≡ greatest_of vs
greatest_kept [] = refl
greatest_kept (v ∷ vs) = refl

pub min_is : (vs : List Value) → unwrap_or (gathered (join_options lesser) None present_value vs) Null ≡ least_of (present vs)
min_is vs = ap (λ p. unwrap_or p Null) (best_is lesser least_of (λ v. refl) (λ v w vs. refl) vs) ∙ least_kept (present vs)

pub max_is : (vs : List Value) → unwrap_or (gathered (join_options greater) None present_value vs) Null ≡ greatest_of (present vs)
max_is vs = ap (λ p. unwrap_or p Null) (best_is greater greatest_of (λ v. refl) (λ v w vs. refl) vs) ∙ greatest_kept (present vs)
