use Rattle.std.proofs.Common.{◌≡◌, map, take}
use Rattle.key_intervals.proofs.listed.all.Given as goal

abbrev pub invariant-loop-value : goal.invariant-loop-value
invariant-loop-value l = map (λ v. v.now) l.list.items ≡ take l.value-index l.values
