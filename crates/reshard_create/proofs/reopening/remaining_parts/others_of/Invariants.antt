use Rattle.std.proofs.Common.{◌≡◌, ◌++◌, take}
use Rattle.reshard_create.specs.reopening.Rebuilt.{others}
use Rattle.reshard_create.proofs.reopening.remaining_parts.others_of.Given as goal

-- of the parts so far
abbrev pub invariant-loop-part : goal.invariant-loop-part
invariant-loop-part g l = l.rest.items ≡ others (l.from ++ l.into) (take l.part-index l.parts)
