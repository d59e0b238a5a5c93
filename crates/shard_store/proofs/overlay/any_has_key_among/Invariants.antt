use Rattle.std.proofs.Common.{◌≡◌, length}
use Rattle.std.specs.List.{list_any}
use Rattle.sql_eval.specs.Schema.{key_of}
use Rattle.sql_eval.specs.Database.{same_row}
use Rattle.shard_store.specs.inner.Joined.{rows_lent}
use Rattle.shard_store.proofs.overlay.any_has_key_among.Given as goal

-- the rows still to come decide it
abbrev pub invariant-loop-row : goal.invariant-loop-row
invariant-loop-row g l =
    list_any (λ r. list_any (λ n. same_row (key_of l.table n) (key_of l.table r)) (rows_lent l.sorted)) (g.S.RowSource.to_come l.rows)
    ≡ list_any (λ r. list_any (λ n. same_row (key_of l.fn.table n) (key_of l.fn.table r)) (rows_lent l.fn.sorted)) (g.S.RowSource.to_come l.fn.rows)

abbrev pub decreases-loop-row : goal.decreases-loop-row
decreases-loop-row g l = length (g.S.RowSource.to_come l.rows)
