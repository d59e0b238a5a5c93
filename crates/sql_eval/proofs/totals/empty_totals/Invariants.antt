use Rattle.std.proofs.Common.{◌≡◌, [], take}
use Rattle.sql_eval.specs.inner.Totals.{totals_of}
use Rattle.sql_eval.proofs.totals.empty_totals.Given as goal

abbrev pub invariant-loop-aggregate : goal.invariant-loop-aggregate
invariant-loop-aggregate l = l.totals.items ≡ totals_of (take l.aggregate-index l.aggregates) []
