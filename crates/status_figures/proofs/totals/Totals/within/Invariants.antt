use Rattle.std.proofs.Common.{◌≡◌}
use Rattle.status_figures.specs.Layout.{in_buckets}
use Rattle.status_figures.proofs.totals.Totals.within.Given as goal

abbrev pub invariant-loop-bucket : goal.invariant-loop-bucket
invariant-loop-bucket l = l.count ≡ in_buckets l.self l.kind l.bucket
