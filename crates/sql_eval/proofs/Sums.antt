-- Counts and sums of rows that a table may hold fit.
use Rattle.std.proofs.Common.{◌≡◌, ℕ, zero, suc, ◌*◌, ◌≤◌, ◌^◌, Bool, true, false, cond, List, [], ◌∷◌, ◌++◌, length, map, filter, pos, negsuc, refl, arith}
use Rattle.std.specs.Prelude.{not, ◌||◌, ◌&&◌, int_lt, Some}
use Rattle.std.specs.List.{AllByRecursion}
use Rattle.std.proofs.lemmas.Bool.{ltb-false}
use Rattle.std.proofs.lemmas.Int.{ints}
use Rattle.std.proofs.lemmas.List.Sums.{sum_by-cons}
use Rattle.vt_value.specs.declared.value.Value.{Value}
use Rattle.vt_value.specs.declared.value.Value.TheVariants.{Null, Int, Bytes}
use Rattle.vt_value.specs.Values.{Row, value_at, is_null}
use Rattle.sql_tree.specs.declared.Item.{Item}
use Rattle.sql_tree.specs.declared.Item.TheVariants.{Column, CountRows, Count, Sum, Min, Max}
use Rattle.aggregate.specs.Aggregates.{size, IsColumnValue}
use Rattle.aggregate.specs.Groups.{column_size, AreSummable}
use Rattle.aggregate.proofs.HeldLemmas.{stored_within}
use Rattle.vschema.specs.Column as schema
use Rattle.vschema.specs.ColumnType.{ColumnType}
use Rattle.vschema.specs.ColumnType.TheVariants.{BigInt, BigIntUnsigned, VarBinary}
use Rattle.vschema.specs.declared.schema.Table.{Table}
use Rattle.vschema.specs.Checks.{is_text_type, value_is_text, differ}
use Rattle.vschema.specs.WriteChecks.{is_out_of_range}
use Rattle.vschema.specs.Storable.{is_storable_value, are_storable_values, is_storable}
use Rattle.sql_eval.specs.Groups.{CanBeSummed}
use Rattle.sql_eval.specs.inner.Parts.{one_of, row_part, part_row}
use Rattle.sql_eval.proofs.GroupLemmas.{filter_all, filter_short}

and_left : (a b : Bool) → (a && b) ≡ true → a ≡ true
and_left true b e = refl
and_left false b e = cc

and_right : (a b : Bool) → (a && b) ≡ true → b ≡ true
and_right true b e = e
and_right false b e = cc

or_left : (a b : Bool) → (a || b) ≡ false → a ≡ false
or_left true b e = cc
or_left false b e = refl

or_right : (a b : Bool) → (a || b) ≡ false → b ≡ false
or_right true b e = cc
or_right false b e = e

not_true : (b : Bool) → not b ≡ true → b ≡ false
not_true true e = cc
not_true false e = refl

number_stored : (kind : ColumnType) (v : Value) → not (differ (Some (is_text_type kind)) (value_is_text v)) ≡ true → is_out_of_range kind v ≡ false → IsColumnValue v
number_stored kind Null d e = tt
number_stored kind (Bytes t) d e = tt
number_stored BigInt (Int (pos n)) d e =
    let less = ltb-false 9223372036854775807 n (or_right (int_lt (pos n) (negsuc 9223372036854775807)) (int_lt (pos 9223372036854775807) (pos n)) e) in
    (omega (arith, ints), omega (arith, ints, less))
number_stored BigInt (Int (negsuc n)) d e =
    let less = ltb-false 9223372036854775807 n (or_left (int_lt (negsuc n) (negsuc 9223372036854775807)) (int_lt (pos 9223372036854775807) (negsuc n)) e) in
    (omega (arith, ints, less), omega (arith, ints))
number_stored BigIntUnsigned (Int (pos n)) d e =
    let less = ltb-false 18446744073709551615 n (or_right (int_lt (pos n) (pos 0)) (int_lt (pos 18446744073709551615) (pos n)) e) in
    (omega (arith, ints), omega (arith, ints, less))
number_stored BigIntUnsigned (Int (negsuc n)) d e = cc
number_stored (VarBinary k) (Int n) d e = cc

value_stored : (c : schema.Column) (v : Value) → is_storable_value c v ≡ true → IsColumnValue v
value_stored c v e = number_stored c.kind v (and_right _ _ (and_left _ _ (and_left _ _ e))) (not_true (is_out_of_range c.kind v) (and_right _ _ (and_left _ _ e)))

values_stored : (columns : List schema.Column) (row : Row) → are_storable_values columns row ≡ true → AllByRecursion IsColumnValue row
values_stored [] [] e = tt
values_stored [] (v ∷ row) e = cc
values_stored (c ∷ columns) [] e = tt
values_stored (c ∷ columns) (v ∷ row) e = (value_stored c v (and_left _ _ e), values_stored columns row (and_right _ _ e))

rows_stored : (t : Table) (rows : List Row) → AllByRecursion (λ row. is_storable t row ≡ true) rows → AllByRecursion (AllByRecursion IsColumnValue) rows
rows_stored t [] all = tt
rows_stored t (row ∷ rows) all = (values_stored t.columns row all.0, rows_stored t rows all.1)

-- at most 2^60 rows that a table may hold
pub storable_summed : (t : Table) (rows : List Row) → AllByRecursion (λ row. is_storable t row ≡ true) rows → length rows ≤ 2 ^ 60 → CanBeSummed rows
storable_summed t rows all few = (few, rows_stored t rows all)

-- some of them
pub filter_summed : (p : Row → Bool) (rows : List Row) → CanBeSummed rows → CanBeSummed (filter p rows)
filter_summed p rows h = let few = h.0 in (omega (arith, few, filter_short p rows), filter_all (AllByRecursion IsColumnValue) p rows h.1)

abbrev pub IsSmall : Value → Type 0
IsSmall v = size v ≤ 2 ^ 64

pub small_at : (row : Row) (n : ℕ) → AllByRecursion IsSmall row → IsSmall (value_at row n)
small_at [] zero all = omega arith
small_at [] (suc n) all = omega arith
small_at (v ∷ row) zero all = all.0
small_at (v ∷ row) (suc n) all = small_at row n all.1

pub all_small : (row : Row) → AllByRecursion IsColumnValue row → AllByRecursion IsSmall row
all_small [] all = tt
all_small (v ∷ row) all = (stored_within v all.0, all_small row all.1)

one_small : (v : Value) → IsSmall (one_of v)
one_small v = by (is_null v)
  where
    by : (b : Bool) → IsSmall (cond b (Int (pos 0)) (Int (pos 1)))
    by true = omega arith
    by false = omega arith

pub part_small : (row : Row) → AllByRecursion IsSmall row → (a : Item ℕ) → IsSmall (row_part row a)
part_small row all (Column c) = omega arith
part_small row all CountRows = omega arith
part_small row all (Count c) = one_small (value_at row c)
part_small row all (Sum c) = small_at row c all
part_small row all (Min c) = small_at row c all
part_small row all (Max c) = small_at row c all

parts_small : (columns : List ℕ) (aggregates : List (Item ℕ)) (row : Row) → AllByRecursion IsSmall row → AllByRecursion IsSmall (part_row columns aggregates row)
parts_small [] [] row all = tt
parts_small [] (a ∷ aggregates) row all = (part_small row all a, parts_small [] aggregates row all)
parts_small (c ∷ columns) aggregates row all = (small_at row c all, parts_small columns aggregates row all)

pub sizes_small : (columns : List ℕ) (aggregates : List (Item ℕ)) (rows : List Row) (n : ℕ) → AllByRecursion (AllByRecursion IsColumnValue) rows
    → column_size n (map (part_row columns aggregates) rows) ≤ length rows * 2 ^ 64
sizes_small columns aggregates [] n all = omega arith
sizes_small columns aggregates (row ∷ rows) n all =
    let part = part_row columns aggregates row in
    let here = small_at part n (parts_small columns aggregates row (all_small row all.0)) in
    let rest = sizes_small columns aggregates rows n all.1 in
    omega (arith, here, rest, sum_by-cons (λ r. size (value_at r n)) part (map (part_row columns aggregates) rows))

-- the rows' parts may be joined
pub parts_summed : (columns : List ℕ) (aggregates : List (Item ℕ)) (rows : List Row) → CanBeSummed rows → AreSummable (length columns) (map (part_row columns aggregates) rows)
parts_summed columns aggregates rows h = λ n le. (let few = h.0 in omega (arith, few, sizes_small columns aggregates rows n h.1))

-- one more
pub all_push : {X : Type 0} (P : X → Type 0) (xs : List X) (x : X) → AllByRecursion P xs → P x → AllByRecursion P (xs ++ x ∷ [])
all_push P [] x all h = (h, tt)
all_push P (y ∷ xs) x all h = (all.0, all_push P xs x all.1 h)
