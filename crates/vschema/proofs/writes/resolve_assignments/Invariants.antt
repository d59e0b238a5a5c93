use Rattle.std.proofs.Common.{◌≡◌, take, map}
use Rattle.vschema.specs.TypedWrites.{resolved_assignment}
use Rattle.vschema.proofs.writes.resolve_assignments.Given as goal

abbrev pub invariant-loop-a : goal.invariant-loop-a
invariant-loop-a l = l.resolved ≡ map (resolved_assignment l.table) (take l.a-index l.assignments)
