use Rattle.std.proofs.Common.{◌≡◌, map, take}
use Rattle.reshard_create.proofs.reopening.rebuild.modes_of.Given as goal

-- the modes so far
abbrev pub invariant-loop-one : goal.invariant-loop-one
invariant-loop-one g l = l.modes.items ≡ map (λ f. f.mode) (take l.one-index l.found)
