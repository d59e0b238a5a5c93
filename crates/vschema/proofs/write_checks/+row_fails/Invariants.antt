use Rattle.std.proofs.Common.{length}
use Rattle.vschema.proofs.write_checks.+row_fails.Given as goal

abbrev pub decreases-row_fails : goal.decreases-row_fails
decreases-row_fails l = length l.ordinals.now
