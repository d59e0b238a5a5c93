-- The laws of parts of a bag of values.
use Rattle.std.specs.Prelude.{◌≡◌, ◌++◌, List, [], IsPermutation}
use Rattle.vt_value.specs.declared.value.Value.{Value}

pub record PartLaws {P : Type 0} (part_of : List Value → P) (joined : P → P → P) : Type 0 where
  pub associative : (p q r : P) → joined (joined p q) r ≡ joined p (joined q r)
  pub commutative : (p q : P) → joined p q ≡ joined q p
  pub unit : (p : P) → joined (part_of []) p ≡ p
  -- the part of two bags together is the join of their parts
  pub splits : (vs ws : List Value) → part_of (vs ++ ws) ≡ joined (part_of vs) (part_of ws)
  -- the order of the values says nothing
  pub bag : (vs ws : List Value) → IsPermutation vs ws → part_of vs ≡ part_of ws
