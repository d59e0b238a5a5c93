use Rattle.std.proofs.Common.{◌+◌, ap, arith}
use Rattle.shard_store.specs.Stores.{StoreView}
use Rattle.shard_store.proofs.KeptRows.{sum_next, sum_front}
use Rattle.shard_store.proofs.stored.StoredTables.row_count.Goals as goal

pub overflow_add-count : goal.overflow_add-count
overflow_add-count c =
    let is = rw c.deref-table-items.ensures.value at c.table-item.is in
    let within = rw c.deref-table-items.ensures.value at c.loop-table-test.true in
    let next = sum_next c.self.inside.tables.items c.args.self.now.rows c.loop-table.table-index c.table-item.result (ap (λ (s : StoreView). s.rows) c.self.view_is) within is in
    let front = sum_front c.args.self.now.rows (c.loop-table.table-index + 1) in
    omega (arith, next, front, c.requires, c.loop-table.invariant, c.row_count-count.ensures)

pub loop-table-preserved : goal.loop-table-preserved
loop-table-preserved c =
    let is = rw c.deref-table-items.ensures.value at c.table-item.is in
    let within = rw c.deref-table-items.ensures.value at c.loop-table-test.true in
    let next = sum_next c.self.inside.tables.items c.args.self.now.rows c.loop-table.table-index c.table-item.result (ap (λ (s : StoreView). s.rows) c.self.view_is) within is in
    omega (arith, next, c.loop-table.invariant, c.row_count-count.ensures)
