use Rattle.std.proofs.Common.{Bool}
use Rattle.vt_value.specs.Values.{Row}
use Rattle.shard_contents.specs.inner.OwnChanges.{HasPositions}
use Rattle.shard_contents.proofs.ChangeLists.{IsSoFar}
use Rattle.shard_contents.proofs.transaction_rows.changed_at.Given as goal

-- the changes before the next one are done to the rows that pass
abbrev pub invariant-loop-position : goal.invariant-loop-position
invariant-loop-position l =
    (p : Row → Bool) → HasPositions p l.fn.ordinal l.changes l.positions
    → IsSoFar p l.fn.ordinal l.changes l.fn.store.rows l.positions l.position-index l.next l.overlaid.rows
