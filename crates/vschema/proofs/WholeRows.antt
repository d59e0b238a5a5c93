-- Rows of an INSERT that are whole as they are: its columns are all of the table's, in their order.
use Rattle.std.proofs.Common.{◌≡◌, ℕ, suc, ◌+◌, ◌<◌, ◌==◌, Bool, true, false, List, [], ◌∷◌, length, map, slice_get, Option, Some, None, option_map, option_and_then, unwrap_or, Ok, refl, sym, ap, ◌∙◌, arith, eqb-true, eq-eqb, if◌then◌else◌}
use Rattle.std.specs.Prelude.{not}
use Rattle.std.specs.List.{list_any}
use Rattle.vt_value.specs.declared.value.Value.{Value}
use Rattle.vt_value.specs.declared.value.Value.TheVariants.{Null}
use Rattle.vt_value.specs.declared.refusal.Refusal.{Refusal}
use Rattle.vt_value.specs.declared.refusal.Refusal.TheVariants.{ColumnNamedTwice, WrongValueCount, UnknownColumn, NotSupported, NoDefaultValue}
use Rattle.vt_value.specs.Values.{Row}
use Rattle.sql_tree.specs.declared.Insert as I
use Rattle.vschema_json.proofs.Options.{neither}
use Rattle.vschema.specs.declared.schema.Table.{Table}
use Rattle.vschema.specs.declared.changes.Write.{Write}
use Rattle.vschema.specs.declared.changes.Write.TheVariants.{Insert}
use Rattle.vschema.specs.Schema.{ordinal_from}
use Rattle.vschema.specs.Resolved.{ordinals_from}
use Rattle.vschema.specs.WriteChecks.{has_twice, has_wrong_count, insert_names, insert_names_unknown, insert_ordinals, inserted_values, has_other_kind, leaves_out_column}
use Rattle.vschema.specs.TypedWrites.{value_for, whole_row, unless_refused, stored_checks, insert_checks, insert_over}

shifted_at : (b : Bool) (k : ℕ) (p q : Option ℕ) → p ≡ option_map (λ i. suc i) q → (if b then Some (k + 1) else p) ≡ option_map (λ i. suc i) (if b then Some k else q)
shifted_at true k p q e = ap Some (omega arith)
shifted_at false k p q e = e

-- the place of a number, counted from one more
shifted : (n k : ℕ) (ns : List ℕ) → ordinal_from (λ m. m == n) (k + 1) ns ≡ option_map (λ i. suc i) (ordinal_from (λ m. m == n) k ns)
shifted n k [] = refl
shifted n k (m ∷ ns) = shifted_at (m == n) k (ordinal_from (λ m. m == n) (k + 1 + 1) ns) (ordinal_from (λ m. m == n) (k + 1) ns) (shifted n (k + 1) ns)

less_apart : (k n : ℕ) → k < n → (b : Bool) → (k == n) ≡ b → (k == n) ≡ false
less_apart k n less true e = let same = eqb-true k n e in absurd (omega (arith, less, same))
less_apart k n less false e = e

taken_after : (v : Value) (vs : List Value) (o : Option ℕ) → option_and_then (slice_get (v ∷ vs)) (option_map (λ i. suc i) o) ≡ option_and_then (slice_get vs) o
taken_after v vs None = refl
taken_after v vs (Some i) = refl

-- the value for a later number
value_after : (k n : ℕ) (ns : List ℕ) (v : Value) (vs : List Value) → k < n → value_for (k ∷ ns) (v ∷ vs) n ≡ value_for ns vs n
value_after k n ns v vs less =
    ap (λ (b : Bool). unwrap_or (option_and_then (slice_get (v ∷ vs)) (if b then Some 0 else ordinal_from (λ m. m == n) (0 + 1) ns)) Null) (less_apart k n less (k == n) refl)
    ∙ ap (λ (o : Option ℕ). unwrap_or (option_and_then (slice_get (v ∷ vs)) o) Null) (shifted n 0 ns)
    ∙ ap (λ (o : Option Value). unwrap_or o Null) (taken_after v vs (ordinal_from (λ m. m == n) 0 ns))

value_here : (k : ℕ) (ns : List ℕ) (v : Value) (vs : List Value) → value_for (k ∷ ns) (v ∷ vs) k ≡ v
value_here k ns v vs = rw (eq-eqb k k refl) refl

values_after : {X : Type 0} (k j : ℕ) (ns : List ℕ) (v : Value) (vs : List Value) (xs : List X) → k < j
    → map (value_for (k ∷ ns) (v ∷ vs)) (ordinals_from j xs) ≡ map (value_for ns vs) (ordinals_from j xs)
values_after k j ns v vs [] less = refl
values_after k j ns v vs (x ∷ xs) less = λ i. value_after k j ns v vs less i ∷ values_after k (j + 1) ns v vs xs (omega (arith, less)) i

-- as many values as columns
as_many : {X : Type 0} (k : ℕ) (xs : List X) (vs : List Value) → length vs ≡ length xs → map (value_for (ordinals_from k xs) vs) (ordinals_from k xs) ≡ vs
as_many k [] [] e = refl
as_many k [] (v ∷ vs) e = absurd (omega (arith, e))
as_many k (x ∷ xs) [] e = absurd (omega (arith, e))
as_many k (x ∷ xs) (v ∷ vs) e = λ i.
    value_here k (ordinals_from (k + 1) xs) v vs i
    ∷ (values_after k (k + 1) (ordinals_from (k + 1) xs) v vs xs (omega arith) ∙ as_many (k + 1) xs vs (omega (arith, e))) i

count_ordinals : {X : Type 0} (k : ℕ) (xs : List X) → length (ordinals_from k xs) ≡ length xs
count_ordinals k [] = refl
count_ordinals k (x ∷ xs) = ap suc (count_ordinals (k + 1) xs)

not_false : (b : Bool) → not b ≡ false → b ≡ true
not_false true e = refl
not_false false e = sym e

row_is : (t : Table) (ns : List ℕ) (row : Row) → ns ≡ ordinals_from 0 t.columns → not (length row == length ns) ≡ false → whole_row t ns row ≡ row
row_is t ns row all counted =
    let same : length row ≡ length ns = eqb-true (length row) (length ns) (not_false (length row == length ns) counted) in
    let many : length row ≡ length t.columns = same ∙ ap (λ (l : List ℕ). length l) all ∙ count_ordinals 0 t.columns in
    ap (λ (l : List ℕ). map (value_for l row) (ordinals_from 0 t.columns)) all ∙ as_many 0 t.columns row many

rows_are : (t : Table) (ns : List ℕ) → ns ≡ ordinals_from 0 t.columns → (rows : List Row) → list_any (λ (row : Row). not (length row == length ns)) rows ≡ false
    → map (whole_row t ns) rows ≡ rows
rows_are t ns all [] counted = refl
rows_are t ns all (row ∷ rows) counted =
    let each = neither (not (length row == length ns)) (list_any (λ (row : Row). not (length row == length ns)) rows) counted in
    λ i. row_is t ns row all each.0 i ∷ rows_are t ns all rows each.1 i

second_false : (a b : Bool) (r q : Refusal) (checks : List (Bool × Refusal)) (w : Write) → unless_refused ((a, r) ∷ (b, q) ∷ checks) w ≡ Ok w → b ≡ false
second_false true b r q checks w e = absurd cc
second_false false true r q checks w e = absurd cc
second_false false false r q checks w e = refl

abbrev later : Table → I.Insert → List (Bool × Refusal)
later t s =
    (insert_names_unknown t s, UnknownColumn) ∷ (has_other_kind (inserted_values t s), NotSupported) ∷ (leaves_out_column t s, NoDefaultValue) ∷ stored_checks (inserted_values t s)

-- an INSERT that passes its checks, of all columns in their order, writes its rows as they are
pub as_they_are : (t : Table) (s : I.Insert) (n : ℕ) → insert_ordinals t s.columns ≡ ordinals_from 0 t.columns
    → unless_refused (insert_checks t s) (insert_over n t s) ≡ Ok (insert_over n t s)
    → unless_refused (insert_checks t s) (insert_over n t s) ≡ Ok (Insert n s.rows)
as_they_are t s n all passes =
    passes ∙ ap (λ (rows : List Row). Ok (Insert n rows)) (rows_are t (insert_ordinals t s.columns) all s.rows (second_false (has_twice (insert_names s)) (has_wrong_count t s) ColumnNamedTwice WrongValueCount (later t s) (insert_over n t s) passes))
