-- What aggregates give of rows, one row more at a time.
use Rattle.std.proofs.Common.{◌≡◌, ℕ, zero, suc, ◌+◌, ◌*◌, ◌<◌, ◌≤◌, ◌^◌, List, [], ◌∷◌, ◌++◌, append_assoc, length, length-append, add-one, map, take, drop, get_or, set, refl, sym, ap, subst, ◌∙◌, arith}
use Rattle.std.specs.List.{AllByRecursion}
use Rattle.std.proofs.lemmas.List.{map-append}
use Rattle.std.proofs.lemmas.List.Sums.{sum_by-cons}
use Rattle.vt_value.specs.declared.value.Value.{Value}
use Rattle.vt_value.specs.Values.{Row}
use Rattle.sql_tree.specs.declared.Item.{Item}
use Rattle.aggregate.specs.Aggregates.{size, sizes, IsColumnValue}
use Rattle.aggregate.specs.Groups.{joined_part}
use Rattle.sql_eval.specs.Groups.{CanBeSummed}
use Rattle.sql_eval.specs.inner.Parts.{row_part}
use Rattle.sql_eval.specs.inner.Totals.{total_of}
use Rattle.sql_eval.proofs.Sums.{all_small, part_small}

abbrev own : Item ℕ → List Row → List Value
own a rows = map (λ row. row_part row a) rows

own_small : (a : Item ℕ) (rows : List Row) → AllByRecursion (AllByRecursion IsColumnValue) rows → sizes (own a rows) ≤ length rows * 2 ^ 64
own_small a [] all = omega arith
own_small a (row ∷ rows) all =
    omega (arith, part_small row (all_small row all.0) a, own_small a rows all.1, sum_by-cons size (row_part row a) (own a rows))

own_more : (a : Item ℕ) (rows : List Row) (row : Row) (part : Value) → part ≡ row_part row a → own a rows ++ part ∷ [] ≡ own a (rows ++ row ∷ [])
own_more a rows row part is = ap (λ v. own a rows ++ v ∷ []) is ∙ sym (map-append (λ (r : Row). row_part r a) rows (row ∷ []))

-- the numbers of few rows' parts stay small
pub own_held : (a : Item ℕ) (rows : List Row) (row : Row) (part : Value) → part ≡ row_part row a → CanBeSummed (rows ++ row ∷ [])
    → sizes (own a rows ++ part ∷ []) < 2 ^ 127
own_held a rows row part is h =
    let few = h.0 in
    let small = own_small a (rows ++ row ∷ []) h.1 in
    omega (arith, few, small, ap sizes (own_more a rows row part is))

-- one row more
pub total_more : (a : Item ℕ) (rows : List Row) (row : Row) (part : Value) → part ≡ row_part row a → joined_part a (own a rows ++ part ∷ []) ≡ total_of (rows ++ row ∷ []) a
total_more a rows row part is = ap (joined_part a) (own_more a rows row part is)

-- ---- a list of which the first elements are done

pub next_at : {X Y : Type 0} (f g : X → Y) (xs : List X) (i : ℕ) (d : X) (e : Y) → i < length xs
    → get_or (map f (take i xs) ++ map g (drop i xs)) i e ≡ g (get_or xs i d)
next_at f g [] i d e within = absurd (omega (arith, within))
next_at f g (y ∷ xs) zero d e within = refl
next_at f g (y ∷ xs) (suc i) d e within = next_at f g xs i d e (omega (arith, within))

set_next : {X Y : Type 0} (f g : X → Y) (xs : List X) (i : ℕ) (d : X) → i < length xs
    → set (map f (take i xs) ++ map g (drop i xs)) i (f (get_or xs i d)) ≡ map f (take (suc i) xs) ++ map g (drop (suc i) xs)
set_next f g [] i d within = absurd (omega (arith, within))
set_next f g (y ∷ xs) zero d within = refl
set_next f g (y ∷ xs) (suc i) d within = ap (λ l. f y ∷ l) (set_next f g xs i d (omega (arith, within)))

pub next_set : {X Y : Type 0} (f g : X → Y) (xs : List X) (i : ℕ) (d : X) → i < length xs
    → set (map f (take i xs) ++ map g (drop i xs)) i (f (get_or xs i d)) ≡ map f (take (i + 1) xs) ++ map g (drop (i + 1) xs)
next_set f g xs i d within = rw add-one (set_next f g xs i d within)

-- ---- the first of rows that may be summed

all_front : {X : Type 0} (P : X → Type 0) (xs ys : List X) → AllByRecursion P (xs ++ ys) → AllByRecursion P xs
all_front P [] ys all = tt
all_front P (x ∷ xs) ys all = (all.0, all_front P xs ys all.1)

pub front_summed : (seen rest all : List Row) (row : Row) → seen ++ row ∷ rest ≡ all → CanBeSummed all → CanBeSummed (seen ++ row ∷ [])
front_summed seen rest all row is h =
    let split : (seen ++ row ∷ []) ++ rest ≡ all = append_assoc seen (row ∷ []) rest ∙ is in
    let g : CanBeSummed ((seen ++ row ∷ []) ++ rest) = subst CanBeSummed (sym split) h in
    let few = g.0 in
    (omega (arith, few, length-append (seen ++ row ∷ []) rest), all_front (AllByRecursion IsColumnValue) (seen ++ row ∷ []) rest g.1)
