use Rattle.std.proofs.Common.{◌≤◌, ◌-◌, length, drop}
use Rattle.client_statements.specs.tokens.inner.Scanning.{tokens_at}
use Rattle.client_statements.proofs.tokens.Loop.{StillReads}
use Rattle.client_statements.proofs.tokens.lexing.tokens.Given as goal

abbrev pub invariant-loop-at : goal.invariant-loop-at
invariant-loop-at l = record { within : l.at ≤ length l.text; reads : StillReads l.tokens.items l.at (drop l.at l.text) (tokens_at (length l.text) 0 l.text) }

abbrev pub decreases-loop-at : goal.decreases-loop-at
decreases-loop-at l = length l.text - l.at
