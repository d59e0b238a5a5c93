use Rattle.std.proofs.Common.{◌∙◌, sym, ap, length}
use Rattle.shard_store.proofs.Keyed.{keyed_swept}
use Rattle.shard_store.proofs.table.StoredTable.sweep.Goals as goal

pub invariant_of-self : goal.invariant_of-self
invariant_of-self c = record {
  keyed = keyed_swept c.self.inside.ordinals c.args.key.now c.self.inside.slots.slots c.sweep.new.self.slots _ c.sweep.ensures.slots c.self.invariant.keyed;
  counted = c.self.invariant.counted ∙ ap length (sym c.sweep.ensures.rows);
}
