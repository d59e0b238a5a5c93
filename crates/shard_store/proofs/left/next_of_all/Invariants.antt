use Rattle.std.proofs.Common.{◌≡◌, length}
use Rattle.std.specs.List.{AllByRecursion}
use Rattle.std.specs.Prelude.{IfSome}
use Rattle.shard_store.specs.Slots.{rows_in}
use Rattle.shard_store.specs.Tables.{IsAtItsKey}
use Rattle.shard_store.specs.inner.Gaps.{IsGapIn}
use Rattle.shard_store.specs.inner.Overlays.{left_of}
use Rattle.shard_store.proofs.left.next_of_all.Given as goal

-- no row that is left was passed over
abbrev pub invariant-loop-key : goal.invariant-loop-key
invariant-loop-key l = record {
  left : left_of l.gone (rows_in l.slots) ≡ left_of l.fn.gone (rows_in l.fn.slots);
  keyed : AllByRecursion (IsAtItsKey l.gone.columns) l.slots;
  gap : IfSome l.gap (IsGapIn l.gone.keys);
}

abbrev pub decreases-loop-key : goal.decreases-loop-key
decreases-loop-key l = length l.slots
