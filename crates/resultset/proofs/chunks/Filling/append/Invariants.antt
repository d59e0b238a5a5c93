use Rattle.std.proofs.Common.{◌≡◌, ◌+◌, ◌≤◌, ◌++◌, length}
use Rattle.std.specs.List.{concat}
use Rattle.resultset.specs.Chunks.{AreChunks}
use Rattle.resultset.specs.declared.chunks.TheConstants.{LAST_ROOM}
use Rattle.resultset.proofs.chunks.Filling.append.Given as goal

abbrev pub invariant-loop-rest : goal.invariant-loop-rest
invariant-loop-rest l = record {
  each : AreChunks l.self-inside.full.items;
  last : length l.self-inside.last.items ≤ 16384;
  room : LAST_ROOM ≤ length l.self-inside.last.items + l.self-inside.last.spare;
  whole : (concat l.self-inside.full.items ++ l.self-inside.last.items) ++ l.rest ≡ l.fn.self ++ l.fn.bytes;
}

abbrev pub decreases-loop-rest : goal.decreases-loop-rest
decreases-loop-rest l = length l.rest + length l.self-inside.last.items
