use Rattle.std.proofs.Common.{◌≡◌, ◌≤◌, ◌-◌, length, take, drop}
use Rattle.sql_lexer.specs.inner.Scanning.{lex_at}
use Rattle.sql_lexer.proofs.Loop.{StillReads}
use Rattle.sql_lexer.proofs.few.few_tokens.Given as goal

abbrev pub invariant-loop-at : goal.invariant-loop-at
invariant-loop-at l = record {
  within : l.at ≤ length l.text;
  room : l.count ≤ length l.room;
  reads : StillReads (take l.count l.room) l.at (drop l.at l.text) (lex_at (length l.text) 0 l.text);
}

abbrev pub decreases-loop-at : goal.decreases-loop-at
decreases-loop-at l = length l.text - l.at
