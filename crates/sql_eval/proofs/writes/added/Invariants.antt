use Rattle.std.proofs.Common.{◌≡◌, map, take}
use Rattle.vschema.specs.declared.changes.RowChange.TheVariants.{Added}
use Rattle.sql_eval.proofs.writes.added.Given as goal

abbrev pub invariant-loop-row : goal.invariant-loop-row
invariant-loop-row l = l.changes ≡ map (Added l.ordinal) (take l.row-index l.new)
