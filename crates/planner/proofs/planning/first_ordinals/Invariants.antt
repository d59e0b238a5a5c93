use Rattle.std.proofs.Common.{◌≡◌, ◌++◌, drop}
use Rattle.vschema.specs.Resolved.{ordinals_from}
use Rattle.planner.proofs.planning.first_ordinals.Given as goal

abbrev pub invariant-loop-ordinal : goal.invariant-loop-ordinal
invariant-loop-ordinal l = l.ordinals ++ ordinals_from l.ordinal (drop l.ordinal l.items) ≡ ordinals_from 0 l.items
