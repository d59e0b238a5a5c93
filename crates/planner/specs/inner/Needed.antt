-- The values that a statement needs, of which there may be one without a list.
use Rattle.std.specs.Prelude.{List, [], ◌∷◌}
use Rattle.vt_value.specs.declared.value.Value.{Value}
use Rattle.planner.specs.declared.needed.Kept.{Kept}
use Rattle.planner.specs.declared.needed.Kept.TheVariants.{One, Many}

abbrev pub kept_values : Kept → List Value
kept_values (One v) = v ∷ []
kept_values (Many values) = values
