use Rattle.std.proofs.Common.{◌≡◌, take, map}
use Rattle.vschema.specs.Scopes.{ordinal_in}
use Rattle.vschema.proofs.resolve.resolve_columns.Given as goal

abbrev pub invariant-loop-column : goal.invariant-loop-column
invariant-loop-column l = l.ordinals ≡ map (ordinal_in l.scope) (take l.column-index l.columns)
