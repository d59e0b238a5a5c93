use Rattle.std.proofs.Common.{◌≡◌, drop}
use Rattle.std.specs.Prelude.{◌==◌}
use Rattle.vschema.specs.Schema.{ordinal_from}
use Rattle.vschema.proofs.writes.position.Given as goal

abbrev pub invariant-loop-i : goal.invariant-loop-i
invariant-loop-i l = ordinal_from (λ m. m == l.ordinal) l.i (drop l.i l.ordinals) ≡ ordinal_from (λ m. m == l.ordinal) 0 l.ordinals
