use Rattle.std.proofs.Common.{arith}
use Rattle.shard_store.proofs.table_rows.TableRows.row_count.Goals as goal

pub overflow_add-result : goal.overflow_add-result
overflow_add-result c =
    let a = c.row_count.ensures.small in
    let b = c.len.ensures in
    let d = c.self.inside.unslotted.small in
    let e = c.self.inside.unslotted.ok.1 in
    omega (arith, a, b, d, e)
