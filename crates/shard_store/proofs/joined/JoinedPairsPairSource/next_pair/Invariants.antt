use Rattle.std.proofs.Common.{◌≡◌, ◌++◌, length, filter}
use Rattle.sql_eval.specs.Sources.{pairs_of}
use Rattle.key_intervals.specs.Conjuncts.{passes}
use Rattle.shard_store.specs.inner.Partners.{current_pairs}
use Rattle.shard_store.proofs.joined.JoinedPairsPairSource.next_pair.Given as goal

-- the first rows that are passed had no partners left
abbrev pub invariant-loop-pair : goal.invariant-loop-pair
invariant-loop-pair g l =
    current_pairs l.self.join l.self.partners ++ pairs_of l.self.join (filter (passes l.self.own.items) (g.S.RowSource.to_come l.self.firsts)) l.self.seconds.now.rows
    ≡ current_pairs l.fn.self.join l.fn.self.partners
    ++ pairs_of l.fn.self.join (filter (passes l.fn.self.own.items) (g.S.RowSource.to_come l.fn.self.firsts)) l.fn.self.seconds.now.rows

abbrev pub decreases-loop-pair : goal.decreases-loop-pair
decreases-loop-pair g l = length (filter (passes l.self.own.items) (g.S.RowSource.to_come l.self.firsts))
