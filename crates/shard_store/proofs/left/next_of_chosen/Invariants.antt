use Rattle.std.proofs.Common.{◌≡◌, length}
use Rattle.shard_store.specs.Chosen.{slots_chosen}
use Rattle.shard_store.specs.inner.Overlays.{left_of}
use Rattle.shard_store.proofs.left.next_of_chosen.Given as goal

-- no row that is left was passed over
abbrev pub invariant-loop-row : goal.invariant-loop-row
invariant-loop-row l = left_of l.gone (slots_chosen l.slots) ≡ left_of l.fn.gone (slots_chosen l.fn.slots)

abbrev pub decreases-loop-row : goal.decreases-loop-row
decreases-loop-row l = length (slots_chosen l.slots)
