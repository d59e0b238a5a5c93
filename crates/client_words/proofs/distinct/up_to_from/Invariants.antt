use Rattle.std.proofs.Common.{◌≡◌, ◌++◌, ℕ, List, length}
use Rattle.client_statements.specs.tokens.Pieces.{lexemes_of}
use Rattle.client_words.specs.Distinct.{up_to_from}
use Rattle.client_words.proofs.distinct.up_to_from.Given as goal

abbrev pub invariant-loop-rest : goal.invariant-loop-rest
invariant-loop-rest l = (text : List ℕ) → lexemes_of text l.list ++ up_to_from (lexemes_of text l.rest) ≡ up_to_from (lexemes_of text l.tokens)

abbrev pub decreases-loop-rest : goal.decreases-loop-rest
decreases-loop-rest l = length l.rest
