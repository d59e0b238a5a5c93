use Rattle.std.proofs.Common.{◌≡◌, length, filter}
use Rattle.key_intervals.specs.Conjuncts.{passes}
use Rattle.shard_store.proofs.joined.next_first.Given as goal

-- no row that passes was passed over
abbrev pub invariant-loop-first : goal.invariant-loop-first
invariant-loop-first g l = filter (passes l.own) (g.S.RowSource.to_come l.firsts) ≡ filter (passes l.fn.own) (g.S.RowSource.to_come l.fn.firsts)

abbrev pub decreases-loop-first : goal.decreases-loop-first
decreases-loop-first g l = length (g.S.RowSource.to_come l.firsts)
