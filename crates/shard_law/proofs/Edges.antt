-- Ranges whose edges are byte strings: what is so at each byte string is so at each id.
use Rattle.std.proofs.Common.{◌≡◌, ℕ, Bool, true, false, not, List, [], ◌∷◌, ◌++◌, Option, Some, None, option_to_list, Contains, IsTrue, refl, sym, ap, ◌∙◌, subst, inl, inr}
use Rattle.std.specs.List.{AllByRecursion}
use Rattle.std.specs.Cmp.{IsStrictWeakOrder, IsTotalOrder}
use Rattle.std.specs.Cmp.Lexicographic.{slice_cmp}
use Rattle.std.specs.Ordering.{nat_cmp, is_lt}
use Rattle.std.specs.declared.cmp.Ordering.{Ordering}
use Rattle.std.specs.declared.cmp.Ordering.TheVariants.{Less, Equal, Greater}
use Rattle.std.proofs.lemmas.Bool.{false≢true, true≢false, and_parts, and_from, not-true, not_from_false}
use Rattle.std.proofs.lemmas.Cmp.{nat_list_cmp_total}
use Rattle.std.proofs.lemmas.List.Sorted.{ranks_by}
use Rattle.keyrange.specs.declared.KeyRange.{KeyRange}
use Rattle.keyrange.specs.Ranges.{is_less, is_before, is_before_end, has_id, IsByteString, Overlap}
use Rattle.keyrange.specs.Names.{IsNamed}
use Rattle.sql_eval.specs.Place.{Place}
use Rattle.shard_law.specs.Legal.{TogetherHold}
use Rattle.shard_law.proofs.Lists.{In, In-from_Contains, In-all, all-append}

less_is : (o : Ordering) → is_less o ≡ is_lt o
less_is Less = refl
less_is Equal = refl
less_is Greater = refl

order : IsStrictWeakOrder (λ x y. is_lt (slice_cmp nat_cmp x y))
order = ranks_by nat_list_cmp_total (λ x. x)

one_way : (x y : List ℕ) → is_before x y ≡ true → is_before y x ≡ false
one_way x y h = less_is (slice_cmp nat_cmp y x) ∙ order.one_way x y (sym (less_is (slice_cmp nat_cmp x y)) ∙ h)

-- x ≤ y and y ≤ z
up : (x y z : List ℕ) → is_before y x ≡ false → is_before z y ≡ false → is_before z x ≡ false
up x y z h g =
    less_is (slice_cmp nat_cmp z x) ∙ order.chain z y x (sym (less_is (slice_cmp nat_cmp z y)) ∙ g) (sym (less_is (slice_cmp nat_cmp y x)) ∙ h)

itself : (x : List ℕ) → is_before x x ≡ false
itself x = by (is_before x x) refl
  where
    by : (b : Bool) → is_before x x ≡ b → is_before x x ≡ false
    by true e = one_way x x e
    by false e = e

-- x ≤ y and y < z
below : (x y z : List ℕ) → is_before y x ≡ false → is_before y z ≡ true → is_before x z ≡ true
below x y z h g = by (is_before x z) refl
  where
    by : (b : Bool) → is_before x z ≡ b → is_before x z ≡ true
    by true e = e
    by false e = absurd (false≢true (sym (up z x y e h) ∙ g))

below_end : (x y : List ℕ) (end : Option (List ℕ)) → is_before y x ≡ false → is_before_end y end ≡ true → is_before_end x end ≡ true
below_end x y None h g = refl
below_end x y (Some e) h g = below x y e h g

parts : (r : KeyRange) (id : List ℕ) → has_id r id ≡ true → (is_before id r.begin ≡ false) × (is_before_end id r.end ≡ true)
parts r id h = let g = and_parts (not (is_before id r.begin)) (is_before_end id r.end) h in (not-true (is_before id r.begin) g.0, g.1)

within : (r : KeyRange) (id : List ℕ) → is_before id r.begin ≡ false → is_before_end id r.end ≡ true → has_id r id ≡ true
within r id h g = and_from (not (is_before id r.begin)) (is_before_end id r.end) (not_from_false (is_before id r.begin) h) g

-- ranges that share an id share the later one of their begins
pub share : (a b : KeyRange) → IsNamed a → IsNamed b → (id : List ℕ) → has_id a id ≡ true → has_id b id ≡ true → Overlap a b
share a b m n id h g = by (is_before a.begin b.begin) refl
  where
    by : (c : Bool) → is_before a.begin b.begin ≡ c → Overlap a b
    by true e = (
      b.begin,
      n.0.0,
      and_from (has_id a b.begin) (has_id b b.begin)
          (within a b.begin (one_way a.begin b.begin e) (below_end b.begin id a.end (parts b id g).0 (parts a id h).1))
          (within b b.begin (itself b.begin) (below_end b.begin id b.end (parts b id g).0 (parts b id g).1)),
    )
    by false e = (
      a.begin,
      m.0.0,
      and_from (has_id a a.begin) (has_id b a.begin)
          (within a a.begin (itself a.begin) (below_end a.begin id a.end (parts a id h).0 (parts a id h).1))
          (within b a.begin e (below_end a.begin id b.end (parts a id h).0 (parts b id g).1)),
    )

-- the greatest of some byte strings that is not above an id
record Best (x start : List ℕ) (edges : List (List ℕ)) : Type 0 where
  best : List ℕ
  bytes : IsByteString best
  from_start : is_before best start ≡ false
  up_to : is_before x best ≡ false
  greatest : AllByRecursion (λ e. is_before x e ≡ false → is_before best e ≡ false) edges

best_of : (x : List ℕ) (edges : List (List ℕ)) → AllByRecursion IsByteString edges → (start : List ℕ)
    → IsByteString start → is_before x start ≡ false → Best x start edges
best_of x [] a start s h = record { best = start; bytes = s; from_start = itself start; up_to = h; greatest = tt }
best_of x (e ∷ edges) a start s h = by (best_of x edges a.1 e a.0) (best_of x edges a.1 start s h) (is_before x e) refl (is_before start e) refl
  where
    by : (is_before x e ≡ false → Best x e edges) → Best x start edges → (b : Bool) → is_before x e ≡ b
        → (c : Bool) → is_before start e ≡ c → Best x start (e ∷ edges)
    by f g true i c j =
        record {
          best = g.best;
          bytes = g.bytes;
          from_start = g.from_start;
          up_to = g.up_to;
          greatest =
              ((λ k. absurd (true≢false (sym i ∙ k))), g.greatest);
        }
    by f g false i true j =
        let r = f i in
        record {
          best = r.best;
          bytes = r.bytes;
          from_start = up start e r.best
              (one_way start e j) r.from_start;
          up_to = r.up_to;
          greatest = ((λ k. r.from_start), r.greatest);
        }
    by f g false i false j =
        record {
          best = g.best;
          bytes = g.bytes;
          from_start = g.from_start;
          up_to = g.up_to;
          greatest =
              ((λ k. up e start g.best j g.from_start), g.greatest);
        }

ends : List Place → List (List ℕ)
ends [] = []
ends (p ∷ places) = option_to_list p.range.end ++ ends places

end_bytes : (r : KeyRange) → IsNamed r → AllByRecursion IsByteString (option_to_list r.end)
end_bytes r n = by r.end n.1
  where
    by : (end : Option (List ℕ)) → Rattle.std.specs.Prelude.IfSome end (λ end. Rattle.keyrange.specs.Names.IsEdge end
        × (Rattle.std.specs.Prelude.◌≢◌ end []) × IsTrue (is_before r.begin end))
        → AllByRecursion IsByteString (option_to_list end)
    by None h = tt
    by (Some e) h = (h.0.0, tt)

ends_bytes : (places : List Place) → AllByRecursion (λ p. IsNamed p.range) places → AllByRecursion IsByteString (ends places)
unfolding ends
ends_bytes [] a = tt
ends_bytes (p ∷ places) a = all-append IsByteString (option_to_list p.range.end) (ends places) (end_bytes p.range a.0) (ends_bytes places a.1)

end_in : (places : List Place) (p : Place) → In p places → (e : List ℕ) → p.range.end ≡ Some e → In e (ends places)
unfolding ends
end_in [] p h e i = absurd h
end_in (q ∷ places) p (inl j) e i =
    Rattle.shard_law.proofs.Lists.In-left e (option_to_list q.range.end) (ends places)
    (subst (λ o. In e (option_to_list o)) (sym (ap (λ p. p.range.end) j ∙ i)) (inl refl))
end_in (q ∷ places) p (inr h) e i = Rattle.shard_law.proofs.Lists.In-right e (option_to_list q.range.end) (ends places) (end_in places p h e i)

-- places that hold each byte string of a place hold each id of it
pub hold_all : (places : List Place) (p : Place) → IsNamed p.range → AllByRecursion (λ q. IsNamed q.range) places
    → TogetherHold places p → (id : List ℕ) → has_id p.range id ≡ true
    → (other : Place) × In other places × (other.keyspace ≡ p.keyspace) × (has_id other.range id ≡ true)
hold_all places p n named hold id h = by (hold b.best b.bytes inside)
  where
    b : Best id p.range.begin (ends places)
    b = best_of id (ends places) (ends_bytes places named) p.range.begin n.0.0 (parts p.range id h).0

    inside : has_id p.range b.best ≡ true
    inside = within p.range b.best b.from_start (below_end b.best id p.range.end b.up_to (parts p.range id h).1)

    -- an end after the best one is after the id
    after : (q : Place) → In q places → (end : Option (List ℕ)) → q.range.end ≡ end → is_before_end b.best end ≡ true → is_before_end id end ≡ true
    after q i None e g = refl
    after q i (Some e) is g = at (is_before id e) refl
      where
        at : (c : Bool) → is_before id e ≡ c → is_before id e ≡ true
        at true j = j
        at false j =
            absurd (true≢false (sym g ∙ In-all (λ e. is_before id e ≡ false → is_before b.best e ≡ false) e
            (ends places) b.greatest (end_in places q i e is) j))

    by : (other : Place) × Contains places other × (other.keyspace ≡ p.keyspace) × IsTrue (has_id other.range b.best)
        → (other : Place) × In other places × (other.keyspace ≡ p.keyspace) × (has_id other.range id ≡ true)
    by w =
        let i = In-from_Contains w.0 places w.1 in
        let g = parts w.0.range b.best w.3 in
        (w.0, i, w.2, within w.0.range id (up w.0.range.begin b.best id g.0 b.up_to) (after w.0 i w.0.range.end refl g.1))
