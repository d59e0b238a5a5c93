use Rattle.std.proofs.Common.{◌≡◌, length}
use Rattle.client_statements.specs.Settings.{are_held_modes}
use Rattle.client_statements.proofs.rule.are_held_modes.Given as goal

abbrev pub invariant-loop-rest : goal.invariant-loop-rest
invariant-loop-rest l = are_held_modes l.rest ≡ are_held_modes l.text

abbrev pub decreases-loop-rest : goal.decreases-loop-rest
decreases-loop-rest l = length l.rest
