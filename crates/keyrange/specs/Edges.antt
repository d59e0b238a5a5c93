-- The bytes of an edge: the first of its array, in which zeros follow them.
use Rattle.std.specs.Prelude.{◌≡◌, ℕ, ◌-◌, ◌≤◌, List, ◌++◌, length, take, drop, replicate}
use Rattle.std.proofs.Common.{arith, ap, length-take, take-append-drop}
use Rattle.keyrange.specs.declared.edge.Edge.TheInside.{Inside}
use Rattle.keyrange.specs.Ids.{IsByteString}

abbrev pub bytes_of : Inside → List ℕ
bytes_of e = take e.len e.bytes

pub record IsPadded (e : Inside) : Type 0 where
  pub len : e.len ≤ 8
  pub array : length e.bytes ≡ 8
  pub zeros : drop e.len e.bytes ≡ replicate (8 - e.len) 0
  pub numbers : IsByteString (bytes_of e)

abbrev pub padded : List ℕ → Inside
padded bytes = record { bytes = bytes ++ replicate (8 - length bytes) 0; len = length bytes }

pub padded-bytes_of : (e : Inside) → IsPadded e → padded (bytes_of e) ≡ e
padded-bytes_of e h =
    let n : length (take e.len e.bytes) ≡ e.len = omega (arith, length-take e.len e.bytes) in
    let b : take e.len e.bytes ++ replicate (8 - e.len) 0 ≡ e.bytes = rw (← h.zeros) (take-append-drop e.len e.bytes) in
    rw n (ap (λ (array : List ℕ). let inside : Inside = record { bytes = array; len = e.len } in inside) b)
