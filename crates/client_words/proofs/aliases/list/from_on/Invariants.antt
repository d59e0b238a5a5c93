use Rattle.std.proofs.Common.{◌≡◌, ℕ, List, length}
use Rattle.client_statements.specs.tokens.Pieces.{lexemes_of}
use Rattle.client_words.specs.Aliases.{from_on}
use Rattle.client_words.proofs.aliases.list.from_on.Given as goal

abbrev pub invariant-loop-rest : goal.invariant-loop-rest
invariant-loop-rest l = (text : List ℕ) → from_on (lexemes_of text l.rest) ≡ from_on (lexemes_of text l.tokens)

abbrev pub decreases-loop-rest : goal.decreases-loop-rest
decreases-loop-rest l = length l.rest
