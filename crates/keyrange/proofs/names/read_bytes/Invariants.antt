use Rattle.std.proofs.Common.{◌≡◌, ◌≤◌, ◌++◌, length}
use Rattle.keyrange.specs.Ranges.{IsByteString}
use Rattle.keyrange.specs.Names.{hex}
use Rattle.keyrange.proofs.names.read_bytes.Given as goal

-- what is read so far
abbrev pub invariant-loop-rest : goal.invariant-loop-rest
invariant-loop-rest l = record {
  spelled : hex l.edge ++ l.rest ≡ l.digits;
  bytes : IsByteString l.edge;
  short : length l.edge ≤ 8;
}

abbrev pub decreases-loop-rest : goal.decreases-loop-rest
decreases-loop-rest l = length l.rest
