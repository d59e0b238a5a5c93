use Rattle.std.proofs.Common.{◌≡◌, ◌++◌, map, take}
use Rattle.reshard_cutover.proofs.cutover_memory.next_parts.Given as goal

abbrev pub invariant-loop-part : goal.invariant-loop-part
invariant-loop-part g l = l.parts.items ≡ take l.part-index l.rest

abbrev pub invariant-loop-target : goal.invariant-loop-target
invariant-loop-target g l = l.parts.items ≡ l.rest ++ map (λ t. t.member.shard.value) (take l.target-index l.targets)
