use Rattle.std.proofs.Common.{◌≡◌, length, filter}
use Rattle.sql_eval.specs.Sources.{is_pair}
use Rattle.shard_store.proofs.joined.next_second.Given as goal

-- no partner was passed over
abbrev pub invariant-loop-second : goal.invariant-loop-second
invariant-loop-second g l = filter (is_pair l.join l.first) (g.S.RowSource.to_come l.seconds) ≡ filter (is_pair l.join l.first) (g.S.RowSource.to_come l.fn.seconds)

abbrev pub decreases-loop-second : goal.decreases-loop-second
decreases-loop-second g l = length (g.S.RowSource.to_come l.seconds)
