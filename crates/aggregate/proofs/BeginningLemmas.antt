-- The values so far of a list.
use Rattle.std.proofs.Common.{◌≡◌, ℕ, ◌+◌, ◌<◌, List, [], ◌∷◌, ◌++◌, length, get_or, take, sym, ap, ◌∙◌, arith}
use Rattle.std.proofs.lemmas.List.{length-take, take_more}
use Rattle.std.proofs.lemmas.List.Sums.{sum_by-take-le}
use Rattle.vt_value.specs.declared.value.Value.{Value}
use Rattle.aggregate.specs.Aggregates.{size, IsHeld}
use Rattle.aggregate.specs.Laws.{PartLaws}

-- one value more
pub part_more : {P : Type 0} (part_of : List Value → P) (joined : P → P → P) → PartLaws part_of joined → (vs : List Value) (i : ℕ) (v : Value) → i < length vs → v ≡ get_or vs i v →
    joined (part_of (take i vs)) (part_of (v ∷ [])) ≡ part_of (take (i + 1) vs)
part_more part_of joined laws vs i v h e =
    sym (laws.splits (take i vs) (v ∷ [])) ∙ ap part_of (ap (λ x. take i vs ++ x ∷ []) e ∙ sym (take_more vs i v h))

pub begin_held : (vs : List Value) (i : ℕ) → IsHeld vs → IsHeld (take i vs)
begin_held vs i held = let few = held.0 in let small = held.1 in (omega (arith, length-take i vs), omega (arith, sum_by-take-le size vs i))
