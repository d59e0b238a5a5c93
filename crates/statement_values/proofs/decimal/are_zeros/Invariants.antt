use Rattle.std.proofs.Common.{◌≡◌, ◌==◌, drop}
use Rattle.std.specs.List.{list_all}
use Rattle.statement_values.proofs.decimal.are_zeros.Given as goal

abbrev pub invariant-loop-digit : goal.invariant-loop-digit
invariant-loop-digit l = list_all (λ b. b == 0x30) (drop l.digit-index l.digits) ≡ list_all (λ b. b == 0x30) l.digits
