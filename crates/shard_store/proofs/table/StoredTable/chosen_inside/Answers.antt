use Rattle.std.proofs.Common.{◌∙◌}
use Rattle.shard_store.specs.Slots.{rows_in}
use Rattle.shard_store.proofs.Keyed.{all_inside}
use Rattle.shard_store.proofs.table.StoredTable.chosen_inside.Goals as goal

pub returns-then-is_whole : goal.returns-then-is_whole
returns-then-is_whole c =
    record { ok = c.rows.ensures ∙ all_inside c.args.keys c.args.self.now.ordinals (rows_in c.args.self.now.slots) (c.is_whole.ensures c.if-is_whole.true) }
