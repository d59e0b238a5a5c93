use Rattle.std.proofs.Common.{◌≡◌, map, take}
use Rattle.vschema.specs.declared.changes.RowChange.TheVariants.{Added}
use Rattle.shard_contents.proofs.copying.added.Given as goal

abbrev pub invariant-loop-row : goal.invariant-loop-row
invariant-loop-row l = l.changes.items ≡ map (Added l.table) (take l.row-index l.rows)
