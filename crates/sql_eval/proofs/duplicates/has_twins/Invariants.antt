use Rattle.std.proofs.Common.{◌≡◌, drop, map}
use Rattle.sql_eval.specs.inner.Keys.{has_twins}
use Rattle.sql_eval.proofs.duplicates.has_twins.Given as goal

-- none so far
abbrev pub invariant-loop-i : goal.invariant-loop-i
invariant-loop-i l = has_twins l.table (map (λ r. r.now) (drop l.i l.rows)) ≡ has_twins l.table (map (λ r. r.now) l.rows)
