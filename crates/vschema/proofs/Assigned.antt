-- What SET stores, with its columns by their ordinals; what INSERT's columns are if it names none; and values that pass the last checks.
use Rattle.std.proofs.Common.{◌≡◌, ℕ, zero, suc, ◌+◌, ◌≤◌, Bool, true, false, List, [], ◌∷◌, ◌++◌, length, take, map, Ok, refl, ap, arith}
use Rattle.std.specs.Prelude.{flat_map, not, ◌||◌, ◌&&◌}
use Rattle.std.specs.List.{list_any, range_with_len}
use Rattle.vt_value.specs.Values.{is_null}
use Rattle.sql_tree.specs.declared.Assignment.{Assignment}
use Rattle.vschema_json.proofs.Options.{neither}
use Rattle.vschema.specs.declared.schema.Table.{Table}
use Rattle.vschema.specs.declared.changes.Write.{Write}
use Rattle.vschema.specs.declared.write_checks.StoredCheck.TheVariants.{Unfit}
use Rattle.vschema.specs.Resolved.{Name, ordinal, ordinals_from}
use Rattle.vschema.specs.WriteChecks.{Stored, with_column, is_key_column, has_wrong_null, has_out_of_range, has_too_long, is_out_of_range, is_too_long}
use Rattle.vschema.specs.TypedWrites.{resolved_assignment, unless_refused, stored_checks}
use Rattle.vschema.specs.inner.StoredChecks.{fails}

pub stored_resolved : (t : Table) (xs : List (Assignment Name))
    → flat_map (λ (a : Assignment ℕ). with_column t a.column a.value) (map (resolved_assignment t) xs)
    ≡ flat_map (λ (a : Assignment Name). with_column t (ordinal t a.column) a.value) xs
stored_resolved t [] = refl
stored_resolved t (x ∷ xs) = ap (λ (l : Stored). with_column t (ordinal t x.column) x.value ++ l) (stored_resolved t xs)

pub keys_resolved : (t : Table) (xs : List (Assignment Name))
    → list_any (λ (a : Assignment ℕ). is_key_column t a.column) (map (resolved_assignment t) xs)
    ≡ list_any (λ (a : Assignment Name). is_key_column t (ordinal t a.column)) xs
keys_resolved t [] = refl
keys_resolved t (x ∷ xs) = ap (λ (b : Bool). is_key_column t (ordinal t x.column) || b) (keys_resolved t xs)

-- the first ordinals are those of a list
pub first_ordinals : {X : Type 0} (xs : List X) (k n : ℕ) → length xs ≤ n → take (length xs) (range_with_len k n) ≡ ordinals_from k xs
first_ordinals [] k n h = refl
first_ordinals (x ∷ xs) k zero h = absurd (omega (arith, h))
first_ordinals (x ∷ xs) k (suc n) h = ap (λ (l : List ℕ). k ∷ l) (first_ordinals xs (k + 1) n (omega (arith, h)))

either_false : (a b : Bool) → a ≡ false → b ≡ false → (a || b) ≡ false
either_false true b e f = cc
either_false false b e f = f

fits_each : (stored : Stored) → list_any (fails Unfit) stored ≡ false
    → (has_wrong_null stored ≡ false) × ((has_out_of_range stored ≡ false) × (has_too_long stored ≡ false))
fits_each [] e = (refl, (refl, refl))
fits_each (p ∷ stored) e =
    let nulls = is_null p.1 && not p.0.nullable in
    let range = is_out_of_range p.0.kind p.1 in
    let long = is_too_long p.0.kind p.1 in
    let here = neither ((nulls || range) || long) (list_any (fails Unfit) stored) e in
    let first = neither (nulls || range) long here.0 in
    let both = neither nulls range first.0 in
    let rest = fits_each stored here.1 in (
      either_false nulls (has_wrong_null stored) both.0 rest.0,
      (either_false range (has_out_of_range stored) both.1 rest.1.0, either_false long (has_too_long stored) first.1 rest.1.1),
    )

-- values of which none is unfit pass the last checks
pub all_fit : (stored : Stored) (w : Write) → list_any (fails Unfit) stored ≡ false → unless_refused (stored_checks stored) w ≡ Ok w
all_fit stored w e =
    let each = fits_each stored e in
    rw (each.0, each.1.0, each.1.1) refl
