-- Lists of keys, as lists of their values.
use Rattle.std.proofs.Common.{◌≡◌, ℕ, Bool, true, false, not, ◌||◌, List, [], ◌∷◌, ◌++◌, map, Some, refl, sym, ap, ◌∙◌, if◌then◌else◌, true≢false, slice_get}
use Rattle.std.specs.List.{list_any, IsDistinct, AllByRecursion}
use Rattle.std.specs.Option.{option_map}
use Rattle.std.proofs.lemmas.List.{map-append}
use Rattle.std.proofs.lemmas.Option.{slice_get-map}
use Rattle.indexmap.specs.IndexSet.{insert_key}
use Rattle.vt_value.specs.Values.{Row, same_row}
use Rattle.aggregate.specs.declared.keys.GroupKey.{GroupKey}
use Rattle.aggregate.specs.inner.Grouping.{has_row}
use Rattle.aggregate.specs.inner.KeyLemmas.{same_row-same}

abbrev pub same_key : GroupKey → GroupKey → Bool
same_key a b = same_row a.values b.values

abbrev pub values_of_keys : List GroupKey → List Row
values_of_keys keys = map (λ k. k.values) keys

pub has_mapped : (k : GroupKey) (keys : List GroupKey) → list_any (same_key k) keys ≡ has_row k.values (values_of_keys keys)
has_mapped k [] = refl
has_mapped k (q ∷ keys) = ap (λ t. same_key k q || t) (has_mapped k keys)

inserted_by : (t : Bool) (k : GroupKey) (keys : List GroupKey) →
    values_of_keys (if t then keys else keys ++ k ∷ []) ≡ (if t then values_of_keys keys else values_of_keys keys ++ k.values ∷ [])
inserted_by true k keys = refl
inserted_by false k keys = map-append (λ (q : GroupKey). q.values) keys (k ∷ [])

pub inserted_mapped : (k : GroupKey) (old new : List GroupKey) → new ≡ insert_key same_key old k →
    values_of_keys new ≡ insert_key same_row (values_of_keys old) k.values
inserted_mapped k old new e =
    ap values_of_keys e ∙ inserted_by (list_any (same_key k) old) k old
    ∙ ap (λ (t : Bool). if t then values_of_keys old else values_of_keys old ++ k.values ∷ []) (has_mapped k old)

pub placed_mapped : (k : GroupKey) (keys : List GroupKey) (i : ℕ) → ((q : GroupKey) × (slice_get keys i ≡ Some q) × (same_key k q ≡ true)) →
    slice_get (values_of_keys keys) i ≡ Some k.values
placed_mapped k keys i there =
    slice_get-map (λ (q : GroupKey). q.values) keys i ∙ ap (option_map (λ (q : GroupKey). q.values)) there.1
    ∙ ap Some (sym (same_row-same k.values there.0.values there.2))

others_mapped : (k : GroupKey) (keys : List GroupKey) → AllByRecursion (λ q. same_key k q ≡ false) keys → AllByRecursion (λ row. same_row k.values row ≡ false) (values_of_keys keys)
others_mapped k [] h = tt
others_mapped k (q ∷ keys) h = (h.0, others_mapped k keys h.1)

pub distinct_mapped : (keys : List GroupKey) → IsDistinct same_key keys → IsDistinct same_row (values_of_keys keys)
unfolding IsDistinct
distinct_mapped [] h = tt
distinct_mapped (k ∷ keys) h = (others_mapped k keys h.0, distinct_mapped keys h.1)

module _ {X : Type 0} where
  -- the list with more after it, where there is no such key, or as it is
  pub with_new : (t : Bool) (xs ys : List X) → t ≡ false → xs ++ ys ≡ (if t then xs else xs ++ ys)
  with_new true xs ys e = absurd (true≢false e)
  with_new false xs ys e = refl

  pub with_old : (t : Bool) (xs ys : List X) → t ≡ true → xs ≡ (if t then xs else xs ++ ys)
  with_old true xs ys e = refl
  with_old false xs ys e = absurd (true≢false (sym e))

pub not_true : (t : Bool) → true ≡ not t → t ≡ false
not_true true e = absurd (true≢false e)
not_true false e = refl

pub not_false : (t : Bool) → false ≡ not t → t ≡ true
not_false true e = refl
not_false false e = absurd (true≢false (sym e))
