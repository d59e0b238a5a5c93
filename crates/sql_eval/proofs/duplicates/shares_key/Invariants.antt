use Rattle.std.proofs.Common.{◌≡◌, drop, map}
use Rattle.sql_eval.specs.inner.Keys.{shares_key}
use Rattle.sql_eval.proofs.duplicates.shares_key.Given as goal

-- none so far
abbrev pub invariant-loop-row : goal.invariant-loop-row
invariant-loop-row l =
    shares_key l.table (map (λ r. r.now) l.sorted) (drop l.row-index l.rows) ≡ shares_key l.table (map (λ r. r.now) l.sorted) l.rows
