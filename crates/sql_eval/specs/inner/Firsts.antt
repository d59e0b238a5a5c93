-- The first of values.
use Rattle.std.specs.Prelude.{List, [], ◌∷◌}
use Rattle.vt_value.specs.declared.value.Value.{Value}
use Rattle.vt_value.specs.declared.value.Value.TheVariants.{Null}

-- NULL of none
abbrev pub first_of : List Value → Value
first_of [] = Null
first_of (v ∷ vs) = v
