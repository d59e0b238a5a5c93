-- At most 2^60 values that columns hold are few enough.
use Rattle.std.proofs.Common.{◌*◌, ◌≤◌, ◌^◌, pos, negsuc, List, [], ◌∷◌, length, arith}
use Rattle.std.specs.Prelude.{All}
use Rattle.std.proofs.lemmas.Int.{ints}
use Rattle.std.proofs.lemmas.List.Elements.{All-head, All-tail}
use Rattle.std.proofs.lemmas.List.Sums.{sum_by-cons}
use Rattle.vt_value.specs.declared.value.Value.{Value}
use Rattle.vt_value.specs.declared.value.Value.TheVariants.{Null, Int, Bytes}
use Rattle.aggregate.specs.Aggregates.{size, sizes, IsHeld, IsColumnValue}

pub stored_within : (v : Value) → IsColumnValue v → size v ≤ 2 ^ 64
stored_within Null s = omega arith
stored_within (Int (pos n)) s = let below = s.1 in omega (arith, ints)
stored_within (Int (negsuc n)) s = let above = s.0 in omega (arith, ints)
stored_within (Bytes t) s = omega arith

all_within : (vs : List Value) → All IsColumnValue vs → sizes vs ≤ length vs * 2 ^ 64
all_within [] h = omega arith
all_within (v ∷ vs) h = omega (arith, stored_within v (All-head IsColumnValue v vs h), all_within vs (All-tail IsColumnValue v vs h), sum_by-cons size v vs)

pub stored_held : (vs : List Value) → length vs ≤ 2 ^ 60 → All IsColumnValue vs → IsHeld vs
stored_held vs few stored = (omega arith, omega (arith, all_within vs stored))
