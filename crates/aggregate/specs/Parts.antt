-- The parts of aggregates: what is kept of a bag of values.
use Rattle.std.specs.Prelude.{ℕ, ℤ, List, [], ◌∷◌, Option, Some, None}
use Rattle.vt_value.specs.declared.value.Value.{Value}
use Rattle.vt_value.specs.declared.value.Value.TheVariants.{Null, Int, Bytes}
use Rattle.aggregate.specs.Aggregates.{number_in}

-- the parts of the values, joined
abbrev pub gathered : {P : Type 0} → (P → P → P) → P → (Value → P) → List Value → P
gathered joined nothing one [] = nothing
gathered joined nothing one (v ∷ vs) = joined (one v) (gathered joined nothing one vs)

-- `None` is the part of no values
abbrev pub join_options : {X : Type 0} → (X → X → X) → Option X → Option X → Option X
join_options op None q = q
join_options op (Some a) None = Some a
join_options op (Some a) (Some b) = Some (op a b)

abbrev pub present_value : Value → Option Value
present_value Null = None
present_value (Int n) = Some (Int n)
present_value (Bytes t) = Some (Bytes t)

abbrev pub present_number : Value → Option ℤ
present_number Null = None
present_number (Int n) = Some n
present_number (Bytes t) = Some (number_in (Bytes t))

-- 1 for a value, 0 for NULL
abbrev pub present_count : Value → ℕ
present_count Null = 0
present_count (Int n) = 1
present_count (Bytes t) = 1

-- what a part of SUM is, as a value
abbrev pub part_value : Option ℤ → Value
part_value None = Null
part_value (Some n) = Int n
