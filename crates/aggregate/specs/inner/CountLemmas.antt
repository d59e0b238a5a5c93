-- The parts of COUNT.
use Rattle.std.proofs.Common.{◌≡◌, ◌+◌, ◌<◌, ◌≤◌, ◌^◌, List, [], ◌∷◌, length, refl, arith, add_assoc, add_comm}
use Rattle.vt_value.specs.declared.value.Value.{Value}
use Rattle.vt_value.specs.declared.value.Value.TheVariants.{Null, Int, Bytes}
use Rattle.aggregate.specs.Aggregates.{present, IsHeld}
use Rattle.aggregate.specs.Laws.{PartLaws}
use Rattle.aggregate.specs.Parts.{gathered, present_count}
use Rattle.aggregate.specs.inner.PartLemmas.{IsCommutativeMonoid, gathered-laws}

sums : IsCommutativeMonoid ◌+◌ 0
sums = record { associative = add_assoc; commutative = add_comm; unit = λ n. omega arith }

pub count_laws : PartLaws (gathered ◌+◌ 0 present_count) ◌+◌
count_laws = gathered-laws sums present_count

pub rows_laws : PartLaws (gathered ◌+◌ 0 (λ v. 1)) ◌+◌
rows_laws = gathered-laws sums (λ v. 1)

pub count_is : (vs : List Value) → gathered ◌+◌ 0 present_count vs ≡ length (present vs)
count_is [] = refl
count_is (Null ∷ vs) = omega (arith, count_is vs)
count_is (Int n ∷ vs) = omega (arith, count_is vs)
count_is (Bytes t ∷ vs) = omega (arith, count_is vs)

pub rows_are : (vs : List Value) → gathered ◌+◌ 0 (λ v. 1) vs ≡ length vs
rows_are [] = refl
rows_are (v ∷ vs) = omega (arith, rows_are vs)

at_most_all : (vs : List Value) → gathered ◌+◌ 0 present_count vs ≤ length vs
at_most_all [] = omega arith
at_most_all (Null ∷ vs) = omega (arith, at_most_all vs)
at_most_all (Int n ∷ vs) = omega (arith, at_most_all vs)
at_most_all (Bytes t ∷ vs) = omega (arith, at_most_all vs)

pub count_holds : (vs : List Value) → IsHeld vs → gathered ◌+◌ 0 present_count vs < 2 ^ 64
count_holds vs held = let few = held.0 in omega (arith, at_most_all vs)

pub rows_hold : (vs : List Value) → IsHeld vs → gathered ◌+◌ 0 (λ v. 1) vs < 2 ^ 64
rows_hold vs held = let few = held.0 in omega (arith, rows_are vs)
