use Rattle.std.proofs.Common.{sym, ◌∙◌, ap, filter, arith}
use Rattle.aggregate.proofs.SliceLemmas.{drop_ended, drop_next}
use Rattle.sql_eval.specs.Conditions.{is_kept}
use Rattle.sql_eval.proofs.source.pass_over.Goals as goal

pub returns-in_default : goal.returns-in_default
returns-in_default g c =
    let ended = rw c.in_default.is at c.next_passing.ensures in
    let after = drop_ended (filter (is_kept c.args.condition.now) (g.S.RowSource.to_come c.args.rows.now)) c.loop.counter c.args.count (sym c.loop.invariant ∙ ended.0) (omega arith) in
    ap (filter (is_kept c.args.condition.now)) ended.1 ∙ sym after

pub loop-preserved : goal.loop-preserved
loop-preserved g c =
    let first = rw c.in-Some.is at c.next_passing.ensures in
    sym (drop_next (filter (is_kept c.args.condition.now) (g.S.RowSource.to_come c.args.rows.now)) (filter (is_kept c.args.condition.now) (g.S.RowSource.to_come c.next_passing.new.rows))
    c.in-Some._row.now c.loop.counter (sym c.loop.invariant ∙ first))
