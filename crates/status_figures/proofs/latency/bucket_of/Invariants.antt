use Rattle.std.proofs.Common.{◌<◌, ℕ}
use Rattle.std.specs.Prelude.{slice_index}
use Rattle.status_figures.specs.declared.latency.TheConstants.{BOUNDS}
use Rattle.status_figures.proofs.latency.bucket_of.Given as goal

abbrev pub invariant-loop-bucket : goal.invariant-loop-bucket
invariant-loop-bucket l = (k : ℕ) → k < l.bucket → slice_index BOUNDS k < l.fn.micros
