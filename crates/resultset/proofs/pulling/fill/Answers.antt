use Rattle.std.proofs.Common.{map, refl}
use Rattle.resultset.specs.Encoding.{row_payload, after_rows}
use Rattle.resultset.specs.inner.Heads.{head_payloads}
use Rattle.resultset.proofs.Payloads.{set_shape}
use Rattle.resultset.proofs.Pulls.{three_ok, three_next}
use Rattle.resultset.proofs.pulling.fill.Goals as goal

pub returns-clause-ok : goal.returns-clause-ok
returns-clause-ok g c =
    three_ok c.fill_rows_end.result c.args.filling.now c.fill_head.new.filling c.fill_rows.new.filling c.fill_rows_end.new.filling
    c.args.number c.in_ok-number.number c.in_ok-number-2.number
    (head_payloads c.args.end c.args.columns.now c.args.status) (map row_payload (g.R.Operator.to_come c.args.rows.now)) (after_rows c.args.end c.args.status) _
    c.in_ok-number.ensures.ok c.in_ok-number.ensures.next c.in_ok-number-2.ensures.ok c.in_ok-number-2.ensures.next c.fill_rows_end.ensures.ok
    (set_shape c.args.end c.args.status c.args.columns.now _ (g.R.Operator.to_come c.args.rows.now) _ refl refl)

pub returns-clause-next : goal.returns-clause-next
returns-clause-next g c =
    three_next c.fill_rows_end.result c.args.number c.in_ok-number.number c.in_ok-number-2.number
    (head_payloads c.args.end c.args.columns.now c.args.status) (map row_payload (g.R.Operator.to_come c.args.rows.now)) (after_rows c.args.end c.args.status) _
    c.in_ok-number.ensures.next c.in_ok-number-2.ensures.next c.fill_rows_end.ensures.next
    (set_shape c.args.end c.args.status c.args.columns.now _ (g.R.Operator.to_come c.args.rows.now) _ refl refl)
