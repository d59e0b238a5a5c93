use Rattle.std.proofs.Common.{length}
use Rattle.key_intervals.proofs.direction.+after.Given as goal

abbrev pub decreases-after : goal.decreases-after
decreases-after l = length l.columns.now
