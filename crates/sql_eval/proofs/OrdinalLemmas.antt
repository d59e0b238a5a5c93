-- The places of columns among those of GROUP BY, by the places where they stand first.
use Rattle.std.proofs.Common.{◌≡◌, ℕ, ◌+◌, ◌<◌, ◌==◌, Bool, true, false, List, [], ◌∷◌, ◌++◌, length, map, take, get_or, unwrap_or, Option, Some, refl, sym, ap, ◌∙◌, if◌then◌else◌}
use Rattle.std.proofs.lemmas.List.{take_more, map-append}
use Rattle.sql_tree.specs.declared.Key.{Key}
use Rattle.vschema.specs.declared.first_ordinals.FirstOrdinals.{FirstOrdinals}
use Rattle.vschema.specs.FirstOrdinals.{first_ordinal}
use Rattle.vschema.specs.Schema as schema
use Rattle.sql_eval.specs.Grouping.{group_ordinal_from, placed_key}

at_first : (b : Bool) (n other here : ℕ) (rest : Option ℕ) → unwrap_or rest other ≡ here → unwrap_or (if b then Some n else rest) other ≡ (if b then n else here)
at_first true n other here rest e = refl
at_first false n other here rest e = e

found : (n other c : ℕ) (columns : List ℕ) → unwrap_or (schema.ordinal_from (λ m. m == c) n columns) other ≡ group_ordinal_from n other columns c
found n other c [] = refl
found n other c (g ∷ columns) =
    at_first (g == c) n other (group_ordinal_from (n + 1) other columns c) (schema.ordinal_from (λ m. m == c) (n + 1) columns) (found (n + 1) other c columns)

pub placed : (first : FirstOrdinals) (columns : List ℕ) → ((n : ℕ) → first_ordinal first n ≡ schema.ordinal_from (λ m. m == n) 0 columns) → (c other : ℕ)
    → unwrap_or (first_ordinal first c) other ≡ group_ordinal_from 0 other columns c
placed first columns are c other = ap (λ o. unwrap_or o other) (are c) ∙ found 0 other c columns

-- with one key more
pub placed_more : (columns : List ℕ) (other : ℕ) (keys before new : List (Key ℕ)) (i : ℕ) (d : Key ℕ) (ordinal : ℕ) → i < length keys
    → ordinal ≡ group_ordinal_from 0 other columns (get_or keys i d).column → new ≡ before ++ record { column = ordinal; descending = (get_or keys i d).descending } ∷ []
    → before ≡ map (placed_key other columns) (take i keys) → new ≡ map (placed_key other columns) (take (i + 1) keys)
placed_more columns other keys before new i d ordinal within is pushed known =
    pushed ∙ (λ j. known j ++ record { column = is j; descending = (get_or keys i d).descending } ∷ [])
    ∙ sym (map-append (placed_key other columns) (take i keys) (get_or keys i d ∷ []))
    ∙ ap (map (placed_key other columns)) (sym (take_more keys i d within))
