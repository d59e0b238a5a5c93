use Rattle.std.proofs.Common.{◌≡◌, ◌++◌, drop}
use Rattle.vschema.specs.Meant.{meant_tables}
use Rattle.vschema.proofs.meaning.all_tables.Given as goal

abbrev pub invariant-loop-ordinal : goal.invariant-loop-ordinal
invariant-loop-ordinal l = l.tables ++ meant_tables l.ordinal (drop l.ordinal l.keyspaces) ≡ meant_tables 0 l.keyspaces
