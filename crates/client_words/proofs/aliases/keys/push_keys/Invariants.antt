use Rattle.std.proofs.Common.{◌≡◌, ◌++◌, false, length}
use Rattle.client_statements.specs.tokens.Pieces.{lexemes_of}
use Rattle.client_words.specs.Aliases.{keys}
use Rattle.client_words.proofs.aliases.keys.push_keys.Given as goal

abbrev pub invariant-loop-rest : goal.invariant-loop-rest
invariant-loop-rest l = lexemes_of l.text l.out ++ keys l.names (lexemes_of l.text l.list) l.after_dot (lexemes_of l.text l.rest)
    ≡ lexemes_of l.text l.fn.out ++ keys l.names (lexemes_of l.text l.list) false (lexemes_of l.text l.tokens)

abbrev pub decreases-loop-rest : goal.decreases-loop-rest
decreases-loop-rest l = length l.rest
