use Rattle.std.proofs.Common.{◌≡◌, take}
use Rattle.shard_calls.proofs.tx.copy_parts.Given as goal

-- the copies of those so far
abbrev pub invariant-loop-part : goal.invariant-loop-part
invariant-loop-part g l = l.copies.items ≡ take l.part-index l.parts
