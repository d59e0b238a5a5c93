use Rattle.std.proofs.Common.{◌≡◌, length}
use Rattle.sql_eval.specs.Pairs.{pairs_left}
use Rattle.sql_eval.proofs.joins.SlicePairsPairSource.next_pair.Given as goal

-- the first rows that are passed had no partners left
abbrev pub invariant-loop-first : goal.invariant-loop-first
invariant-loop-first l =
    pairs_left l.self.join l.self.firsts.now l.self.rest.now l.self.seconds.now ≡ pairs_left l.fn.self.join l.fn.self.firsts.now l.fn.self.rest.now l.fn.self.seconds.now

abbrev pub decreases-loop-first : goal.decreases-loop-first
decreases-loop-first l = length l.self.firsts.now
