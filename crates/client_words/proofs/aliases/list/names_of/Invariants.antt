use Rattle.std.proofs.Common.{◌≡◌, ◌++◌, None, length}
use Rattle.client_statements.specs.tokens.Pieces.{lexemes_of}
use Rattle.client_words.specs.Aliases.{names_from}
use Rattle.client_words.proofs.aliases.list.names_of.Given as goal

abbrev pub invariant-loop-rest : goal.invariant-loop-rest
invariant-loop-rest l = l.names ++ names_from l.name (lexemes_of l.text l.rest) ≡ names_from None (lexemes_of l.text l.tokens)

abbrev pub decreases-loop-rest : goal.decreases-loop-rest
decreases-loop-rest l = length l.rest
