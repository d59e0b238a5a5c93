-- Where numbers stand first, found from the last one on.
use Rattle.std.proofs.Common.{◌≡◌, ℕ, ◌+◌, ◌-◌, ◌<◌, ◌≤◌, ◌==◌, length, drop, get_or, Bool, true, false, cond, not, ◌||◌, List, [], ◌∷◌, Option, Some, is_none, nat_cmp, is_eq, refl, ap, ◌∙◌, arith, if◌then◌else◌}
use Rattle.std.proofs.lemmas.Grind.{common_steps}
use Rattle.std.proofs.lemmas.List.{drop_more}
use Rattle.std.specs.List.{list_any}
use Rattle.sql_tree.specs.declared.Item.{Item}
use Rattle.sql_tree.specs.declared.Item.TheVariants.{Column, CountRows, Count, Sum, Min, Max}
use Rattle.sql_tree.specs.declared.Key.{Key}
use Rattle.vschema.specs.declared.first_ordinals.FirstOrdinals.{FirstOrdinals}
use Rattle.vschema.specs.Schema.{ordinal_from}
use Rattle.vschema.specs.Checks.{has_number, is_ungrouped}
use Rattle.vschema.specs.FirstOrdinals.{first_ordinal}
use Rattle.vschema.specs.inner.FirstOrdinals.{shows_other}

same_number : (x n : ℕ) → is_eq (nat_cmp x n) ≡ (x == n)
same_number x n = grind (arith, common_steps)

-- with the number before a place
pub placed_before : (ns : List ℕ) (i n : ℕ) (later : Option ℕ) → 0 < i → i ≤ length ns → later ≡ ordinal_from (λ m. m == n) i (drop i ns)
    → cond (is_eq (nat_cmp (get_or ns (i - 1) 0) n)) (Some (i - 1)) later ≡ ordinal_from (λ m. m == n) (i - 1) (drop (i - 1) ns)
placed_before ns i n later above within is =
    let same : i - 1 + 1 ≡ i = omega arith in
    let trailing : drop (i - 1) ns ≡ get_or ns (i - 1) 0 ∷ drop i ns = drop_more ns (i - 1) 0 (omega arith) ∙ ap (λ k. get_or ns (i - 1) 0 ∷ drop k ns) same in
    rw (trailing, same, same_number (get_or ns (i - 1) 0) n, is) refl

unplaced_at : (b found : Bool) (k : ℕ) (rest : Option ℕ) → is_none rest ≡ not found → is_none (if b then Some k else rest) ≡ not (b || found)
unplaced_at true found k rest e = refl
unplaced_at false found k rest e = e

-- a number that stands nowhere
pub unplaced : (ns : List ℕ) (n k : ℕ) → is_none (ordinal_from (λ m. m == n) k ns) ≡ not (has_number ns n)
unplaced [] n k = refl
unplaced (m ∷ ns) n k = unplaced_at (m == n) (has_number ns n) k (ordinal_from (λ m. m == n) (k + 1) ns) (unplaced ns n (k + 1))

abbrev pub AreOrdinals : FirstOrdinals → List ℕ → Type 0
AreOrdinals ordinals ns = (n : ℕ) → first_ordinal ordinals n ≡ ordinal_from (λ m. m == n) 0 ns

other_shown : (ordinals : FirstOrdinals) (ns : List ℕ) → AreOrdinals ordinals ns → (i : Item ℕ) → shows_other ordinals i ≡ is_ungrouped ns i
other_shown ordinals ns are (Column n) = ap is_none (are n) ∙ unplaced ns n 0
other_shown ordinals ns are CountRows = refl
other_shown ordinals ns are (Count n) = refl
other_shown ordinals ns are (Sum n) = refl
other_shown ordinals ns are (Min n) = refl
other_shown ordinals ns are (Max n) = refl

-- what is shown, and what is ordered by, of other columns
pub others : (ordinals : FirstOrdinals) (ns : List ℕ) → AreOrdinals ordinals ns → (items : List (Item ℕ)) (keys : List (Key ℕ))
    → list_any (shows_other ordinals) items || list_any (λ k. is_none (first_ordinal ordinals k.column)) keys
    ≡ list_any (is_ungrouped ns) items || list_any (λ k. not (has_number ns k.column)) keys
others ordinals ns are items keys = λ j.
    list_any (λ i. other_shown ordinals ns are i j) items || list_any (λ k. (ap is_none (are k.column) ∙ unplaced ns k.column 0) j) keys
