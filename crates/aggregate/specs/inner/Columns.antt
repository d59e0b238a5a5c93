-- What the parts of a group's columns give, one row more at a time.
use Rattle.std.specs.Prelude.{◌≡◌, ℕ, ℤ, ◌+ℤ◌, List, [], ◌∷◌, drop, flat_map, Option, None, IfSome, FitsSigned, ⊤}
use Rattle.std.specs.Int.{w128}
use Rattle.vt_value.specs.declared.value.Value.{Value}
use Rattle.vt_value.specs.Values.{Row, value_at}
use Rattle.operators.specs.Item.{Item}
use Rattle.operators.specs.Item.TheVariants.{Column, CountRows, Count, Sum, Min, Max}
use Rattle.aggregate.specs.Aggregates.{lesser, greater}
use Rattle.aggregate.specs.Parts.{gathered, join_options, present_value, present_number}
use Rattle.aggregate.specs.Groups.{joined_part, joined_parts, of_group, group_keys}

abbrev pub total_part : List Value → Option ℤ
total_part = gathered (join_options ◌+ℤ◌) None present_number

abbrev pub least_part : List Value → Option Value
least_part = gathered (join_options lesser) None present_value

abbrev pub greatest_part : List Value → Option Value
greatest_part = gathered (join_options greater) None present_value

-- the sum of two parts fits its type
abbrev pub FitTogether : Value → Value → Type 0
FitTogether p v = IfSome (join_options ◌+ℤ◌ (present_number p) (present_number v)) (λ n. FitsSigned w128 n)

abbrev pub CanJoin : Item ℕ → Value → Value → Type 0
CanJoin (Column c) p v = ⊤
CanJoin CountRows p v = FitTogether p v
CanJoin (Count c) p v = FitTogether p v
CanJoin (Sum c) p v = FitTogether p v
CanJoin (Min c) p v = ⊤
CanJoin (Max c) p v = ⊤

-- the parts of aggregates with one value more each, NULL after the last value
abbrev pub with_values : List (Item ℕ) → List Value → List Value → List Value
with_values [] parts vs = []
with_values (a ∷ aggregates) [] vs = []
with_values (a ∷ aggregates) (p ∷ parts) vs = joined_part a (p ∷ value_at vs 0 ∷ []) ∷ with_values aggregates parts (drop 1 vs)

abbrev pub CanJoinAll : List (Item ℕ) → List Value → List Value → Type 0
CanJoinAll [] parts vs = ⊤
CanJoinAll (a ∷ aggregates) [] vs = ⊤
CanJoinAll (a ∷ aggregates) (p ∷ parts) vs = CanJoin a p (value_at vs 0) × CanJoinAll aggregates parts (drop 1 vs)

-- These are the groups of the rows: their values, and what the parts of each give, one group after another.
abbrev pub AreGroups : List (Item ℕ) → ℕ → List Row → List Row → List Value → Type 0
AreGroups aggregates width rows keys parts =
    (keys ≡ group_keys width rows) × (parts ≡ flat_map (λ key. joined_parts aggregates width (of_group width key rows)) keys)
