use Rattle.std.proofs.Common.{◌≡◌, length}
use Rattle.std.specs.List.{list_any}
use Rattle.sql_eval.specs.Schema.{key_of}
use Rattle.sql_eval.specs.Database.{same_row}
use Rattle.shard_store.proofs.source.any_has_key.Given as goal

-- the rows still to come decide it
abbrev pub invariant-loop-r : goal.invariant-loop-r
invariant-loop-r g l =
    list_any (λ r. same_row (key_of l.table l.row) (key_of l.table r)) (g.S.RowSource.to_come l.rows)
    ≡ list_any (λ r. same_row (key_of l.fn.table l.fn.row) (key_of l.fn.table r)) (g.S.RowSource.to_come l.fn.rows)

abbrev pub decreases-loop-r : goal.decreases-loop-r
decreases-loop-r g l = length (g.S.RowSource.to_come l.rows)
