use Rattle.std.proofs.Common.{◌≡◌, fold, take}
use Rattle.aggregate.specs.Keys.{row_writes}
use Rattle.aggregate.proofs.keys.GroupKeyHash.hash.Given as goal

abbrev pub invariant-loop-value : goal.invariant-loop-value
invariant-loop-value g l = l.state ≡ fold g.H.Hasher.write l.fn.state (row_writes (take l.value-index l.value-items))
