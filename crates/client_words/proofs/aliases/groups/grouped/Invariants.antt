use Rattle.std.proofs.Common.{◌≡◌, ◌++◌, false, length}
use Rattle.client_statements.specs.tokens.Pieces.{lexemes_of}
use Rattle.client_words.specs.Aliases.{grouped}
use Rattle.client_words.specs.inner.Known.{known_of}
use Rattle.client_words.proofs.aliases.groups.grouped.Given as goal

abbrev pub invariant-loop-rest : goal.invariant-loop-rest
invariant-loop-rest l =
    lexemes_of l.text l.out ++ grouped (known_of l.listed.known) l.listed.names.now (lexemes_of l.text l.listed.items.now) l.in_group l.after_dot (lexemes_of l.text l.rest)
    ≡ grouped (known_of l.listed.known) l.listed.names.now (lexemes_of l.text l.listed.items.now) false false (lexemes_of l.text l.tokens)

abbrev pub decreases-loop-rest : goal.decreases-loop-rest
decreases-loop-rest l = length l.rest
