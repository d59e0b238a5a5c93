-- The ordinal of something in a list.
use Rattle.std.specs.Prelude.{ℕ, ◌+◌, Bool, List, [], ◌∷◌, Option, Some, None, if◌then◌else◌}

-- the ordinal of the first element that passes the test, counted from a number
abbrev pub ordinal_from : {X : Type 0} → (X → Bool) → ℕ → List X → Option ℕ
ordinal_from test n [] = None
ordinal_from test n (x ∷ xs) = if test x then Some n else ordinal_from test (n + 1) xs
