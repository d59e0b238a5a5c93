-- Numbers and names that are in a list, and those that are there twice.
use Rattle.std.specs.Prelude.{ℕ, Bool, false, ◌||◌, ◌==◌, List, [], ◌∷◌, bytes_eq}
use Rattle.std.specs.List.{list_any}

abbrev pub has_number : List ℕ → ℕ → Bool
has_number ns n = list_any (λ m. m == n) ns

abbrev pub has_number_twice : List ℕ → Bool
has_number_twice [] = false
has_number_twice (n ∷ ns) = has_number ns n || has_number_twice ns

abbrev pub has_twice : List (List ℕ) → Bool
has_twice [] = false
has_twice (n ∷ names) = list_any (bytes_eq n) names || has_twice names
