use Rattle.std.proofs.Common.{◌≡◌, length, None}
use Rattle.row_chunks.specs.Chunks.{all_of}
use Rattle.row_chunks.proofs.walk.WalkBack.next.Given as goal

abbrev pub invariant-loop-chunk : goal.invariant-loop-chunk
invariant-loop-chunk g l = (all_of l.self-inside.rest.now ≡ l.fn.self) × (l.self-inside.last ≡ None)

abbrev pub decreases-loop-chunk : goal.decreases-loop-chunk
decreases-loop-chunk g l = length l.self-inside.rest.now
