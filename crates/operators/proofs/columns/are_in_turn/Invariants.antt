use Rattle.std.proofs.Common.{◌≡◌, take}
use Rattle.std.specs.List.{range_with_len}
use Rattle.operators.proofs.columns.are_in_turn.Given as goal

-- the places so far
abbrev pub invariant-loop-n : goal.invariant-loop-n
invariant-loop-n l = take l.n l.ordinals ≡ range_with_len 0 l.n
