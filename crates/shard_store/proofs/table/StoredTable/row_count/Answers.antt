use Rattle.std.proofs.Common.{arith}
use Rattle.shard_store.proofs.Keyed.{rows_fit}
use Rattle.shard_store.proofs.table.StoredTable.row_count.Goals as goal

pub returns-clause-small : goal.returns-clause-small
returns-clause-small c =
    let fit = rows_fit c.self.inside.slots.slots in
    omega (arith, fit, c.self.invariant.counted, c.len-slots.ensures.len, c.len-slots.ensures.small)
