use Rattle.std.proofs.Common.{length}
use Rattle.key_intervals.proofs.keys.+narrowed.Given as goal

abbrev pub decreases-narrowed : goal.decreases-narrowed
decreases-narrowed l = length l.columns.now
