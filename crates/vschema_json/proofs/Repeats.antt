-- Names that stand twice, found from the last one on.
use Rattle.std.proofs.Common.{◌≡◌, ℕ, zero, suc, ◌+◌, ◌-◌, ◌<◌, ◌≤◌, length, drop, get_or, Bool, true, false, cond, not, ◌||◌, List, [], ◌∷◌, map, bytes_eq, nat_cmp, is_eq, refl, sym, ap, ◌∙◌, arith}
use Rattle.std.proofs.lemmas.List.{drop_more}
use Rattle.std.proofs.lemmas.Map.Text.{is_eq-slice_cmp}
use Rattle.std.specs.Cmp.Lexicographic.{slice_cmp, nat_list_eq_equiv}
use Rattle.std.specs.List.{list_any}
use Rattle.vschema_json.specs.Twice.{has_twice}

-- the element before a place, and those from there on
pub from_before : {X : Type 0} (f : X → List ℕ) (xs : List X) (i : ℕ) (d : X) → 0 < i → i ≤ length xs
    → map f (drop (i - 1) xs) ≡ f (get_or xs (i - 1) d) ∷ map f (drop i xs)
from_before f xs i d above within =
    let same : i - 1 + 1 ≡ i = omega arith in
    ap (map f) (drop_more xs (i - 1) d (omega arith) ∙ ap (λ n. get_or xs (i - 1) d ∷ drop n xs) same)

or_cond : (b c : Bool) → cond b true c ≡ b || c
or_cond true c = refl
or_cond false c = refl

-- a set with one name more
pub known_more : (x q : List ℕ) (rest all : List (List ℕ)) (c : Bool) → all ≡ x ∷ rest → c ≡ list_any (bytes_eq q) rest
    → cond (is_eq (slice_cmp nat_cmp x q)) true c ≡ list_any (bytes_eq q) all
known_more x q rest all c e is = rw (e, is_eq-slice_cmp x q, nat_list_eq_equiv.symm x q, is) (or_cond (bytes_eq q x) (list_any (bytes_eq q) rest))

or_right : (a b : Bool) → b ≡ true → a || b ≡ true
or_right true b e = refl
or_right false b e = e

-- what is twice from a place on
nothing_after : {X : Type 0} (f : X → List ℕ) (i : ℕ) → has_twice (map f (drop i [])) ≡ true → has_twice (map f []) ≡ true
nothing_after f zero e = e
nothing_after f (suc i) e = e

pub twice_after : {X : Type 0} (f : X → List ℕ) (xs : List X) (i : ℕ) → has_twice (map f (drop i xs)) ≡ true → has_twice (map f xs) ≡ true
twice_after f [] i e = nothing_after f i e
twice_after f (x ∷ xs) zero e = e
twice_after f (x ∷ xs) (suc i) e = or_right (list_any (bytes_eq (f x)) (map f xs)) (has_twice (map f xs)) (twice_after f xs i e)

-- where no name after is twice, one stands twice exactly if the set had it
pub decided : (x : List ℕ) (rest all : List (List ℕ)) (had new : Bool) → all ≡ x ∷ rest → new ≡ not had → had ≡ list_any (bytes_eq x) rest
    → has_twice rest ≡ false → has_twice all ≡ not new
decided x rest all true new e added known once = rw (e, sym known, added) refl
decided x rest all false new e added known once = rw (e, sym known, added, once) refl
