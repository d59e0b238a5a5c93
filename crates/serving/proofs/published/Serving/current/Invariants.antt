use Rattle.serving.specs.Partitions.{AreOf}
use Rattle.serving.proofs.published.Serving.current.Given as goal

-- the one so far is of the keyspace
abbrev pub invariant-loop-cell : goal.invariant-loop-cell
invariant-loop-cell g l = AreOf l.self l.current
