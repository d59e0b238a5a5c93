-- What LIMIT leaves of a list, and what a select list shows of a row.
use Rattle.std.specs.Prelude.{ℕ, Bool, false, List, [], ◌∷◌, map, take, drop, Option, Some, None}
use Rattle.vt_value.specs.Values.{Row, value_at}
use Rattle.sql_tree.specs.declared.LimitClause.{LimitClause}

-- count rows from the offset on, or all that are left; all of them without LIMIT
abbrev pub sliced : {X : Type 0} → Option LimitClause → List X → List X
sliced None xs = xs
sliced (Some l) xs = take l.count (drop l.offset xs)

-- the values of a row at these ordinals
abbrev pub columns_of : List ℕ → Row → Row
columns_of ordinals row = map (value_at row) ordinals

-- whether the first element passes a test
abbrev pub first_is : {X : Type 0} → (X → Bool) → List X → Bool
first_is test [] = false
first_is test (x ∷ xs) = test x

-- rows by the columns at these ordinals, or as they are
abbrev pub shown_at : Option (List ℕ) → List Row → List Row
shown_at None rows = rows
shown_at (Some ordinals) rows = map (columns_of ordinals) rows
