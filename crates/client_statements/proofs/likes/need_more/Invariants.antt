use Rattle.std.proofs.Common.{◌≡◌, ◌+◌, ◌≤◌, drop}
use Rattle.client_statements.specs.inner.Patterns.{needed}
use Rattle.client_statements.proofs.likes.need_more.Given as goal

abbrev pub invariant-loop-piece : goal.invariant-loop-piece
invariant-loop-piece l = record {
  whole : l.count + needed (drop l.piece-index l.pieces) ≡ needed l.pieces;
  below : l.count ≤ l.piece-index;
  within : l.count ≤ l.bytes;
}
