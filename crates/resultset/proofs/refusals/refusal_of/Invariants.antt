use Rattle.std.proofs.Common.{◌≢◌, ℕ, ◌<◌, get_or}
use Rattle.vt_value.specs.declared.refusal.Refusal.TheVariants.{OutOfMemory}
use Rattle.vt_value.specs.Refusals.{message_of}
use Rattle.resultset.proofs.refusals.refusal_of.Given as goal

abbrev pub invariant-loop-refusal : goal.invariant-loop-refusal
invariant-loop-refusal l = (k : ℕ) → k < l.refusal-index → message_of (get_or l.refusal-items k OutOfMemory) ≢ l.message
