use Rattle.std.proofs.Common.{◌≡◌, drop, filter}
use Rattle.sql_eval.specs.Conditions.{is_kept}
use Rattle.sql_eval.proofs.source.pass_over.Given as goal

abbrev pub invariant-loop : goal.invariant-loop
invariant-loop g l = filter (is_kept l.condition) (g.S.RowSource.to_come l.rows) ≡ drop l.counter (filter (is_kept l.fn.condition) (g.S.RowSource.to_come l.fn.rows))
