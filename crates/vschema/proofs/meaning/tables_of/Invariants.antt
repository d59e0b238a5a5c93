use Rattle.std.proofs.Common.{◌≡◌, take, map}
use Rattle.vschema.specs.Meant.{meant_table}
use Rattle.vschema.proofs.meaning.tables_of.Given as goal

abbrev pub invariant-loop-table : goal.invariant-loop-table
invariant-loop-table l = l.tables ≡ map (meant_table l.keyspace l.ordinal) (take l.table-index l.keyspace.tables)
