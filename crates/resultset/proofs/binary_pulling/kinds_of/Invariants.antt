use Rattle.std.proofs.Common.{◌≡◌, take}
use Rattle.resultset.specs.BinaryRows.{kinds_of}
use Rattle.resultset.proofs.binary_pulling.kinds_of.Given as goal

abbrev pub invariant-loop-column : goal.invariant-loop-column
invariant-loop-column l = l.kinds ≡ kinds_of (take l.column-index l.columns)
