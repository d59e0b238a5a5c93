use Rattle.std.proofs.Common.{◌≡◌, take}
use Rattle.shard_contents.proofs.kept_entry.shared.Given as goal

abbrev pub invariant-loop-change : goal.invariant-loop-change
invariant-loop-change l = l.list.items ≡ take l.change-index l.changes
