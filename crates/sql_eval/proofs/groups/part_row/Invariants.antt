use Rattle.std.proofs.Common.{◌≡◌, ◌++◌, take, map}
use Rattle.vt_value.specs.Values.{value_at}
use Rattle.sql_eval.specs.inner.Parts.{row_part}
use Rattle.sql_eval.proofs.groups.part_row.Given as goal

abbrev pub invariant-loop-column : goal.invariant-loop-column
invariant-loop-column l = l.part ≡ map (value_at l.row) (take l.column-index l.columns)

abbrev pub invariant-loop-aggregate : goal.invariant-loop-aggregate
invariant-loop-aggregate l = l.part ≡ l.initial.part ++ map (row_part l.row) (take l.aggregate-index l.aggregates)
