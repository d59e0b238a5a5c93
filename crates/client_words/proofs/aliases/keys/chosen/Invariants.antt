use Rattle.std.proofs.Common.{◌≡◌, ◌++◌, length}
use Rattle.client_statements.specs.tokens.Pieces.{lexemes_of}
use Rattle.client_words.specs.Aliases.{chosen}
use Rattle.client_words.proofs.aliases.keys.chosen.Given as goal

abbrev pub invariant-loop-left : goal.invariant-loop-left
invariant-loop-left l = lexemes_of l.text l.out ++ chosen l.word l.left (lexemes_of l.text l.rest) ≡ chosen l.word l.names (lexemes_of l.text l.list)

abbrev pub decreases-loop-left : goal.decreases-loop-left
decreases-loop-left l = length l.rest
