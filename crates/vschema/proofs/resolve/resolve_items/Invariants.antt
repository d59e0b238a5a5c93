use Rattle.std.proofs.Common.{◌≡◌, take, map}
use Rattle.vschema.specs.Resolved.{resolved_item}
use Rattle.vschema.proofs.resolve.resolve_items.Given as goal

abbrev pub invariant-loop-item : goal.invariant-loop-item
invariant-loop-item l = l.resolved ≡ map (resolved_item l.scope) (take l.item-index l.items)
