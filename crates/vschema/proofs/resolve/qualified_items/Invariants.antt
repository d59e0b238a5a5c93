use Rattle.std.proofs.Common.{◌≡◌, take, map}
use Rattle.vschema.specs.Resolved.{is_qualified}
use Rattle.vschema.proofs.resolve.qualified_items.Given as goal

abbrev pub invariant-loop-item : goal.invariant-loop-item
invariant-loop-item l = l.qualified ≡ map is_qualified (take l.item-index l.items)
