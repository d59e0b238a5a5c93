use Rattle.std.proofs.Common.{◌≡◌, vec_len}
use Rattle.shard_store.proofs.table_rows.close_slots.Given as goal

abbrev pub invariant-loop-changed : goal.invariant-loop-changed
invariant-loop-changed l = (l.stored.slots ≡ l.fn.stored.slots) × (l.stored.ordinals ≡ l.fn.stored.ordinals)

abbrev pub decreases-loop-changed : goal.decreases-loop-changed
decreases-loop-changed l = vec_len l.keys
