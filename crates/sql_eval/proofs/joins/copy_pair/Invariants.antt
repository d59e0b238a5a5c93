use Rattle.std.proofs.Common.{◌≡◌, ◌++◌, take}
use Rattle.vschema.specs.Sources.{padded_row}
use Rattle.sql_eval.proofs.joins.copy_pair.Given as goal

abbrev pub invariant-loop-ordinal : goal.invariant-loop-ordinal
invariant-loop-ordinal l = l.row ≡ padded_row l.ordinal l.first

abbrev pub invariant-loop-value : goal.invariant-loop-value
invariant-loop-value l = l.row ≡ padded_row l.width l.first ++ take l.value-index l.second
