use Rattle.std.proofs.Common.{◌≡◌, length, filter}
use Rattle.sql_eval.specs.Conditions.{is_kept}
use Rattle.sql_eval.proofs.joins.next_kept_pair.Given as goal

-- no pair that is kept was passed over
abbrev pub invariant-loop-pair : goal.invariant-loop-pair
invariant-loop-pair g l = filter (is_kept l.condition) (g.S.PairSource.to_come l.pairs) ≡ filter (is_kept l.fn.condition) (g.S.PairSource.to_come l.fn.pairs)

abbrev pub decreases-loop-pair : goal.decreases-loop-pair
decreases-loop-pair g l = length (g.S.PairSource.to_come l.pairs)
