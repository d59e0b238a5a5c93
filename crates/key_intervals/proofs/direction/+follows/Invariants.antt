use Rattle.std.proofs.Common.{length}
use Rattle.key_intervals.proofs.direction.+follows.Given as goal

abbrev pub decreases-follows : goal.decreases-follows
decreases-follows l = length l.keys.now
