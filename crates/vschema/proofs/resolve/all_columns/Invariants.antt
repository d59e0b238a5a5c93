use Rattle.std.proofs.Common.{◌≡◌, ◌++◌, drop, map}
use Rattle.sql_tree.specs.declared.Item.TheVariants as item
use Rattle.vschema.specs.Resolved.{ordinals_from}
use Rattle.vschema.specs.Scopes.{scope_columns}
use Rattle.vschema.proofs.resolve.all_columns.Given as goal

-- those so far, with the others, are all
abbrev pub invariant-loop-ordinal : goal.invariant-loop-ordinal
invariant-loop-ordinal l =
    l.shown ++ map item.Column (ordinals_from l.ordinal (drop l.ordinal (scope_columns l.scope))) ≡ map item.Column (ordinals_from 0 (scope_columns l.scope))
