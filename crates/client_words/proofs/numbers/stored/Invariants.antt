use Rattle.std.proofs.Common.{◌≡◌, ◌++◌, [], length}
use Rattle.client_words.specs.Numbers.{stored}
use Rattle.client_words.proofs.numbers.stored.Given as goal

abbrev pub invariant-loop-rest : goal.invariant-loop-rest
invariant-loop-rest l = l.out ++ stored l.text l.kinds l.now l.rest ≡ stored l.text l.kinds [] l.tokens

abbrev pub decreases-loop-rest : goal.decreases-loop-rest
decreases-loop-rest l = length l.rest
