use Rattle.std.proofs.Common.{◌≡◌, ◌++◌, length}
use Rattle.client_statements.specs.tokens.Pieces.{lexemes_of}
use Rattle.client_words.specs.Numbers.{kinds_in}
use Rattle.client_words.specs.inner.Known.{known_of}
use Rattle.client_words.proofs.places.kinds_in.Given as goal

abbrev pub invariant-loop-rest : goal.invariant-loop-rest
invariant-loop-rest l = l.kinds ++ kinds_in (known_of l.known) (lexemes_of l.text l.rest) ≡ kinds_in (known_of l.known) (lexemes_of l.text l.tokens)

abbrev pub decreases-loop-rest : goal.decreases-loop-rest
decreases-loop-rest l = length l.rest
