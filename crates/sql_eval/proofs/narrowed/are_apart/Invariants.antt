use Rattle.std.proofs.Common.{◌≡◌, length}
use Rattle.sql_eval.specs.inner.Narrowings.{are_apart}
use Rattle.sql_eval.proofs.narrowed.are_apart.Given as goal

abbrev pub invariant-loop-item : goal.invariant-loop-item
invariant-loop-item l = are_apart l.items ≡ are_apart l.rest

abbrev pub decreases-loop-item : goal.decreases-loop-item
decreases-loop-item l = length l.rest
