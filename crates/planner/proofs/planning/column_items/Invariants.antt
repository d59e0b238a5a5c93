use Rattle.std.proofs.Common.{◌≡◌, take, map}
use Rattle.sql_tree.specs.declared.Item.TheVariants as item
use Rattle.planner.proofs.planning.column_items.Given as goal

abbrev pub invariant-loop-column : goal.invariant-loop-column
invariant-loop-column l = l.items ≡ map item.Column (take l.column-index l.columns)
