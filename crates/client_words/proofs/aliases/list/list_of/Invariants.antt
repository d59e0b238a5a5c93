use Rattle.std.proofs.Common.{◌≡◌, ◌++◌, length}
use Rattle.client_statements.specs.tokens.Pieces.{lexemes_of}
use Rattle.client_words.specs.Aliases.{list_of}
use Rattle.client_words.proofs.aliases.list.list_of.Given as goal

abbrev pub invariant-loop-rest : goal.invariant-loop-rest
invariant-loop-rest l = lexemes_of l.text l.list ++ list_of (lexemes_of l.text l.rest) ≡ list_of (lexemes_of l.text l.tokens)

abbrev pub decreases-loop-rest : goal.decreases-loop-rest
decreases-loop-rest l = length l.rest
