use Rattle.std.proofs.Common.{◌≡◌, ◌+◌, take}
use Rattle.shard_contents.specs.inner.OwnChanges.{ArePositionedFrom, HaveMore}
use Rattle.shard_contents.proofs.own_changes.add_changes.Given as goal

-- the changes so far have their positions
abbrev pub invariant-loop-change : goal.invariant-loop-change
invariant-loop-change l = record {
  next : l.position ≡ l.fn.first + l.change-index;
  kept : HaveMore l.fn.by_key.items l.by_key.items;
  positioned : ArePositionedFrom l.fn.first l.by_key.items (take l.change-index l.changes);
}
