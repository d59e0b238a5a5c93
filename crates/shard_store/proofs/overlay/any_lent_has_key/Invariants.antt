use Rattle.std.proofs.Common.{◌≡◌, drop}
use Rattle.std.specs.List.{list_any}
use Rattle.sql_eval.specs.Schema.{key_of}
use Rattle.sql_eval.specs.Database.{same_row}
use Rattle.shard_store.specs.inner.Joined.{rows_lent}
use Rattle.shard_store.proofs.overlay.any_lent_has_key.Given as goal

-- the other rows decide it
abbrev pub invariant-loop-row : goal.invariant-loop-row
invariant-loop-row l =
    list_any (λ r. list_any (λ n. same_row (key_of l.table n) (key_of l.table r)) (rows_lent l.sorted)) (rows_lent (drop l.row-index l.rows))
    ≡ list_any (λ r. list_any (λ n. same_row (key_of l.table n) (key_of l.table r)) (rows_lent l.sorted)) (rows_lent l.rows)
