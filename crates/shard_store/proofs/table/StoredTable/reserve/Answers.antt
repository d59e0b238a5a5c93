use Rattle.std.proofs.Common.{◌∙◌, sym, ap, length}
use Rattle.shard_store.proofs.Keyed.{keyed_tried}
use Rattle.shard_store.proofs.table.StoredTable.reserve.Goals as goal

pub invariant_of-self : goal.invariant_of-self
invariant_of-self c = record {
  keyed = keyed_tried c.self.inside.ordinals c.args.key.now c.self.inside.slots.slots c.reserve.new.self.slots c.reserve.result c.reserve.ensures.slots c.reserve.ensures.unchanged c.self.invariant.keyed;
  counted = c.self.invariant.counted ∙ ap length (sym c.reserve.ensures.rows);
}
