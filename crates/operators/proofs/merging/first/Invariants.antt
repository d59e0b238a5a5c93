use Rattle.operators.proofs.FirstLemmas.{FirstSoFar}
use Rattle.operators.proofs.merging.first.Given as goal

abbrev pub invariant-loop-ordinal : goal.invariant-loop-ordinal
invariant-loop-ordinal g l = FirstSoFar l.keys l.heads l.least l.ordinal
