-- The order of keyspace ids, and what lies in a range.
use Rattle.std.proofs.Common.{◌≡◌, ℕ, Bool, true, false, not, List, [], ◌∷◌, ◌&&◌, Option, Some, None, IsTrue, ◌↔◌, cond, refl, sym, ap, subst, ◌∙◌}
use Rattle.std.specs.Cmp.{IsStrictWeakOrder}
use Rattle.std.specs.Cmp.Lexicographic.{slice_cmp}
use Rattle.std.specs.Ordering.{nat_cmp, is_lt}
use Rattle.std.specs.declared.cmp.Ordering.{Ordering}
use Rattle.std.specs.declared.cmp.Ordering.TheVariants.{Less, Equal, Greater}
use Rattle.std.proofs.lemmas.Bool.{false≢true, and_parts, and_from, not-true, not_from_false}
use Rattle.std.proofs.lemmas.Cmp.{nat_list_cmp_total}
use Rattle.std.proofs.lemmas.List.Sorted.{ranks_by}
use Rattle.keyrange.specs.declared.KeyRange.{KeyRange}
use Rattle.keyrange.specs.Ranges.{is_less, is_before, is_before_end, has_id, IsByteString, Overlap}
use Rattle.keyrange.specs.inner.Covers.{later}

less_is : (o : Ordering) → is_less o ≡ is_lt o
less_is Less = refl
less_is Equal = refl
less_is Greater = refl

order : IsStrictWeakOrder (λ x y. is_lt (slice_cmp nat_cmp x y))
order = ranks_by nat_list_cmp_total (λ x. x)

pub one_way : (x y : List ℕ) → is_before x y ≡ true → is_before y x ≡ false
one_way x y h = less_is (slice_cmp nat_cmp y x) ∙ order.one_way x y (sym (less_is (slice_cmp nat_cmp x y)) ∙ h)

-- x ≤ y and y ≤ z
pub up : (x y z : List ℕ) → is_before y x ≡ false → is_before z y ≡ false → is_before z x ≡ false
up x y z h g =
    less_is (slice_cmp nat_cmp z x)
    ∙ order.chain z y x (sym (less_is (slice_cmp nat_cmp z y)) ∙ g) (sym (less_is (slice_cmp nat_cmp y x)) ∙ h)

pub itself : (x : List ℕ) → is_before x x ≡ false
itself x = by (is_before x x) refl
  where
    by : (b : Bool) → is_before x x ≡ b → is_before x x ≡ false
    by true e = one_way x x e
    by false e = e

-- x ≤ y and y < z
pub below : (x y z : List ℕ) → is_before y x ≡ false → is_before y z ≡ true → is_before x z ≡ true
below x y z h g = by (is_before x z) refl
  where
    by : (b : Bool) → is_before x z ≡ b → is_before x z ≡ true
    by true e = e
    by false e = absurd (false≢true (sym (up z x y e h) ∙ g))

pub below_end : (x y : List ℕ) (end : Option (List ℕ)) → is_before y x ≡ false → is_before_end y end ≡ true → is_before_end x end ≡ true
below_end x y None h g = refl
below_end x y (Some e) h g = below x y e h g

pub never_before : (x : List ℕ) → is_before x [] ≡ false
never_before [] = refl
never_before (b ∷ x) = refl

pub parts : (r : KeyRange) (id : List ℕ) → has_id r id ≡ true → (is_before id r.begin ≡ false) × (is_before_end id r.end ≡ true)
parts r id h =
    let g = and_parts (not (is_before id r.begin)) (is_before_end id r.end) h in
    (not-true (is_before id r.begin) g.0, g.1)

pub within : (r : KeyRange) (id : List ℕ) → is_before id r.begin ≡ false → is_before_end id r.end ≡ true → has_id r id ≡ true
within r id h g = and_from (not (is_before id r.begin)) (is_before_end id r.end) (not_from_false (is_before id r.begin) h) g

-- an id of two ranges, the one with the later begin first: that begin is in both
share : (a b : KeyRange) (id : List ℕ) → is_before a.begin b.begin ≡ false → has_id a id ≡ true → has_id b id ≡ true
    → (has_id a a.begin ≡ true) × (has_id b a.begin ≡ true)
share a b id e h g =
    let end : (o : Option (List ℕ)) → is_before_end id o ≡ true → is_before_end a.begin o ≡ true = λ o. below_end a.begin id o (parts a id h).0 in
    (within a a.begin (itself a.begin) (end a.end (parts a id h).1), within b a.begin e (end b.end (parts b id g).1))

both : (a b : KeyRange) (start : List ℕ) → (has_id a start ≡ true) × (has_id b start ≡ true) → IsTrue (has_id a start && has_id b start)
both a b start h = and_from (has_id a start) (has_id b start) h.0 h.1

-- two ranges overlap where the later of their begins is in both
pub overlap : (a b : KeyRange) → IsByteString a.begin → IsByteString b.begin
    → let start = later a.begin b.begin in IsTrue (has_id a start && has_id b start) ↔ Overlap a b
overlap a b h g = (λ e. (later a.begin b.begin, bytes (is_before a.begin b.begin), e), λ w. by w.0 (and_parts (has_id a w.0) (has_id b w.0) w.2) (is_before a.begin b.begin) refl)
  where
    bytes : (t : Bool) → IsByteString (cond t b.begin a.begin)
    bytes true = g
    bytes false = h

    by : (id : List ℕ) → (has_id a id ≡ true) × (has_id b id ≡ true) → (t : Bool) → is_before a.begin b.begin ≡ t
        → let start = cond t b.begin a.begin in IsTrue (has_id a start && has_id b start)
    by id k true e = let s = share b a id (one_way a.begin b.begin e) k.1 k.0 in both a b b.begin (s.1, s.0)
    by id k false e = both a b a.begin (share a b id e k.0 k.1)

pub overlap_then : (a b : KeyRange) (start : List ℕ) (t : Bool) → IsByteString a.begin → IsByteString b.begin
    → start ≡ later a.begin b.begin → has_id a start ≡ true → t ≡ has_id b start → IsTrue t ↔ Overlap a b
overlap_then a b start t h g e i j =
    subst (λ u. IsTrue u ↔ Overlap a b) (ap (λ s. has_id a s && has_id b s) (sym e) ∙ ap (λ u. u && has_id b start) i ∙ sym j) (overlap a b h g)

pub overlap_else : (a b : KeyRange) (start : List ℕ) (t : Bool) → IsByteString a.begin → IsByteString b.begin
    → start ≡ later a.begin b.begin → has_id a start ≡ false → t ≡ false → IsTrue t ↔ Overlap a b
overlap_else a b start t h g e i j =
    subst (λ u. IsTrue u ↔ Overlap a b) (ap (λ s. has_id a s && has_id b s) (sym e) ∙ ap (λ u. u && has_id b start) i ∙ sym j) (overlap a b h g)
