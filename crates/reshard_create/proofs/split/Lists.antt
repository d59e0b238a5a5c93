-- Lists that other lists are made of.
use Rattle.std.proofs.Common.{◌≡◌, ℕ, zero, suc, ◌<◌, ◌≤◌, List, [], ◌∷◌, ◌++◌, length, map, take, get_or, refl, ap, arith}
use Rattle.std.specs.Prelude.{Contains}
use Rattle.std.specs.List.{AllByRecursion}

pub map_twice : {X Y Z : Type 0} (g : Y → Z) (f : X → Y) (xs : List X) → map g (map f xs) ≡ map (λ x. g (f x)) xs
map_twice g f [] = refl
map_twice g f (x ∷ xs) = ap (λ l. g (f x) ∷ l) (map_twice g f xs)

pub all_map : {X Y : Type 0} (P : Y → Type 0) (f : X → Y) (xs : List X) → AllByRecursion (λ x. P (f x)) xs → AllByRecursion P (map f xs)
all_map P f [] all = tt
all_map P f (x ∷ xs) all = (all.0, all_map P f xs all.1)

pub all_from_map : {X Y : Type 0} (P : Y → Type 0) (f : X → Y) (xs : List X) → AllByRecursion P (map f xs) → AllByRecursion (λ x. P (f x)) xs
all_from_map P f [] all = tt
all_from_map P f (x ∷ xs) all = (all.0, all_from_map P f xs all.1)

pub all_both : {X : Type 0} (P : X → Type 0) (xs ys : List X) → AllByRecursion P xs → AllByRecursion P ys → AllByRecursion P (xs ++ ys)
all_both P [] ys a b = b
all_both P (x ∷ xs) ys a b = (a.0, all_both P xs ys a.1 b)

-- an item of a list that is made of another
pub get_map : {X Y : Type 0} (f : X → Y) (xs : List X) (k : ℕ) (d : Y) (e : X) → k < length xs → get_or (map f xs) k d ≡ f (get_or xs k e)
get_map f [] k d e l = absurd (omega (arith, l))
get_map f (x ∷ xs) zero d e l = refl
get_map f (x ∷ xs) (suc k) d e l = get_map f xs k d e (omega (arith, l))

pub all_push : {X : Type 0} (P : X → Type 0) (xs : List X) (x : X) → AllByRecursion P xs → P x → AllByRecursion P (xs ++ x ∷ [])
all_push P [] x a p = (p, tt)
all_push P (y ∷ ys) x a p = (a.0, all_push P ys x a.1 p)

-- an element of the list isn't one of which none is
pub not_there : {X : Type 0} (xs : List X) (x : X) → AllByRecursion (λ y. y ≡ x → ⊥) xs → Contains xs x → ⊥
not_there [] x none h = let l = h.1 in absurd (omega (arith, l))
not_there (y ∷ xs) x none h = by h.0 h.1 h.2 (not_there xs x none.1)
  where
    by : (k : ℕ) → k < length (y ∷ xs) → get_or (y ∷ xs) k x ≡ x → (Contains xs x → ⊥) → ⊥
    by zero l e rest = none.0 e
    by (suc k) l e rest = rest (k, omega (arith, l), e)

pub whole : {X : Type 0} (P : X → Type 0) (n : ℕ) (xs : List X) → length xs ≤ n → AllByRecursion P (take n xs) → AllByRecursion P xs
whole P zero [] l all = tt
whole P zero (x ∷ xs) l all = absurd (omega (arith, l))
whole P (suc n) [] l all = tt
whole P (suc n) (x ∷ xs) l all = (all.0, whole P n xs (omega (arith, l)) all.1)
