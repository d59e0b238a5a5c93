-- Rows of a table after a row, and rows in the order of their primary keys.
use Rattle.std.specs.Prelude.{◌≡◌, Bool, true, false, List, [], ◌∷◌, Option, Some, None}
use Rattle.std.specs.List.{AllByRecursion}
use Rattle.std.specs.Ordering.{is_lt}
use Rattle.std.specs.Cmp.Lexicographic.{slice_cmp}
use Rattle.vt_value.specs.Values.{Row, value_cmp}
use Rattle.sql_eval.specs.Table.{Table}
use Rattle.sql_eval.specs.Schema.{key_of}

-- the primary key of one row is before that of the other
abbrev pub is_row_before : Table → Row → Row → Bool
is_row_before t a b = is_lt (slice_cmp value_cmp (key_of t a) (key_of t b))

-- a row is after the last one, if one is given
abbrev pub comes_after : Table → Option Row → Row → Bool
comes_after t None row = true
comes_after t (Some last) row = is_row_before t last row

-- no row is before an earlier one
abbrev pub IsInOrder : Table → List Row → Type 0
IsInOrder t [] = Unit {0}
IsInOrder t (x ∷ rows) = AllByRecursion (λ y. is_row_before t y x ≡ false) rows × IsInOrder t rows
