use Rattle.std.proofs.Common.{◌≡◌, ℕ, List, length}
use Rattle.client_statements.specs.tokens.Pieces.{lexemes_of}
use Rattle.client_words.specs.Numbers.{table_on}
use Rattle.client_words.proofs.columns.table_on.Given as goal

abbrev pub invariant-loop-rest : goal.invariant-loop-rest
invariant-loop-rest l = (text : List ℕ) → table_on (lexemes_of text l.rest) ≡ table_on (lexemes_of text l.tokens)

abbrev pub decreases-loop-rest : goal.decreases-loop-rest
decreases-loop-rest l = length l.rest
