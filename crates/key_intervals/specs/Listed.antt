-- Values that a condition lists.
use Rattle.std.specs.Prelude.{◌≡◌, Bool, false, List, [], ◌∷◌, ⊤}
use Rattle.std.specs.List.{list_any}
use Rattle.std.specs.Ordering.{is_eq, is_lt}
use Rattle.vt_value.specs.declared.value.Value.{Value}
use Rattle.vt_value.specs.Values.{value_cmp}
use Rattle.key_intervals.specs.declared.equalities.Fixed.{Fixed}
use Rattle.key_intervals.specs.declared.equalities.Fixed.TheVariants.{One, Among}

-- a value is one of these
abbrev pub is_among : List Value → Value → Bool
is_among values x = list_any (λ v. is_eq (value_cmp v x)) values

-- a value is one that a condition allows
abbrev pub fits : Fixed → Value → Bool
fits (One v) x = is_eq (value_cmp v.now x)
fits (Among values) x = is_among values.now x

-- no value is below the one before it
abbrev pub Climbs : List Value → Type 0
Climbs [] = ⊤
Climbs (v ∷ []) = ⊤
Climbs (v ∷ w ∷ values) = (is_lt (value_cmp w v) ≡ false) × Climbs (w ∷ values)
