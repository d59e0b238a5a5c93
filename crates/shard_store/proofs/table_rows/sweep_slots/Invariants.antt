use Rattle.std.proofs.Common.{◌≡◌}
use Rattle.shard_store.specs.Slots.{rows_in}
use Rattle.shard_store.proofs.table_rows.sweep_slots.Given as goal

abbrev pub invariant-loop-changed : goal.invariant-loop-changed
invariant-loop-changed l = (rows_in l.stored.slots ≡ rows_in l.fn.stored.slots) × (l.stored.ordinals ≡ l.fn.stored.ordinals)
