use Rattle.std.proofs.Common.{◌≡◌, [], map, take}
use Rattle.admin.proofs.router.setup.empty_store.Given as goal

abbrev pub invariant-loop-table : goal.invariant-loop-table
invariant-loop-table l = l.store.rows ≡ map (λ t. []) (take l.table-index l.tables)
