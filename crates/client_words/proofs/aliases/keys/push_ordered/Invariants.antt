use Rattle.std.proofs.Common.{◌≡◌, ◌++◌, length}
use Rattle.client_statements.specs.tokens.Pieces.{lexemes_of}
use Rattle.client_words.specs.Aliases.{ordered}
use Rattle.client_words.proofs.aliases.keys.push_ordered.Given as goal

abbrev pub invariant-loop-rest : goal.invariant-loop-rest
invariant-loop-rest l = lexemes_of l.text l.out ++ ordered l.names (lexemes_of l.text l.list) (lexemes_of l.text l.rest)
    ≡ lexemes_of l.text l.fn.out ++ ordered l.names (lexemes_of l.text l.list) (lexemes_of l.text l.tokens)

abbrev pub decreases-loop-rest : goal.decreases-loop-rest
decreases-loop-rest l = length l.rest
