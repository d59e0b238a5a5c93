use Rattle.std.proofs.Common.{◌≡◌, filter, take}
use Rattle.vschema.specs.Database.{rows_of, all_applied}
use Rattle.shard_contents.specs.inner.Stores.{is_selected}
use Rattle.shard_contents.proofs.transaction_rows.replayed.Given as goal

-- the changes so far are done to the wanted rows
abbrev pub invariant-loop-change : goal.invariant-loop-change
invariant-loop-change l =
    filter (is_selected l.wanted) l.overlaid.rows ≡ filter (is_selected l.wanted) (rows_of (all_applied (take l.change-index l.changes) l.fn.store.rows) l.fn.ordinal)
