use Rattle.std.proofs.Common.{◌≡◌, ◌++◌, length}
use Rattle.client_words.specs.declared.places.Place.TheVariants.{Other}
use Rattle.client_words.specs.Numbers.{compared}
use Rattle.client_words.specs.inner.Known.{known_of}
use Rattle.client_words.proofs.numbers.compared.Given as goal

abbrev pub invariant-loop-rest : goal.invariant-loop-rest
invariant-loop-rest l = l.out ++ compared l.text (known_of l.known) l.place l.rest ≡ compared l.text (known_of l.known) Other l.tokens

abbrev pub decreases-loop-rest : goal.decreases-loop-rest
decreases-loop-rest l = length l.rest
