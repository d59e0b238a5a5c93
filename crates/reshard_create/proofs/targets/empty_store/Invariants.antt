use Rattle.std.proofs.Common.{◌≡◌, [], replicate}
use Rattle.reshard_create.proofs.targets.empty_store.Given as goal

-- as many empty tables so far
abbrev pub invariant-loop-table : goal.invariant-loop-table
invariant-loop-table l = l.store.rows ≡ replicate l.table-index []
