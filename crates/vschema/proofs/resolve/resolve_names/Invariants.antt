use Rattle.std.proofs.Common.{◌≡◌, take, map}
use Rattle.vschema.specs.Resolved.{ordinal}
use Rattle.vschema.proofs.resolve.resolve_names.Given as goal

abbrev pub invariant-loop-name : goal.invariant-loop-name
invariant-loop-name l = l.ordinals ≡ map (ordinal l.table) (take l.name-index l.names)
