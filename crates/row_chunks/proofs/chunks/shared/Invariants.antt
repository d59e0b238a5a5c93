use Rattle.std.proofs.Common.{◌≡◌, ◌++◌, drop}
use Rattle.row_chunks.specs.Chunks.{spans}
use Rattle.row_chunks.proofs.chunks.shared.Given as goal

abbrev pub invariant-loop-chunk : goal.invariant-loop-chunk
invariant-loop-chunk g l = spans l.list.items ++ spans (drop l.chunk-index l.chunks) ≡ spans l.chunks
