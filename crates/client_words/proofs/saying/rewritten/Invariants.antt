use Rattle.std.proofs.Common.{length}
use Rattle.client_statements.specs.tokens.Pieces.{lexemes_of}
use Rattle.client_words.proofs.Sayings.{IsWritten}
use Rattle.client_words.proofs.saying.rewritten.Given as goal

abbrev pub invariant-loop-rest : goal.invariant-loop-rest
invariant-loop-rest l = IsWritten l.table (lexemes_of l.text l.tokens) l.out.items (lexemes_of l.text l.rest)

abbrev pub decreases-loop-rest : goal.decreases-loop-rest
decreases-loop-rest l = length l.rest
