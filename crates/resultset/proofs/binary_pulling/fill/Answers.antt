use Rattle.std.proofs.Common.{map, ◌∙◌}
use Rattle.resultset.specs.Encoding.{after_rows}
use Rattle.resultset.specs.BinaryRows.{binary_row_payload}
use Rattle.resultset.specs.inner.Heads.{head_payloads}
use Rattle.resultset.proofs.BinaryPulls.{binary_shape}
use Rattle.resultset.proofs.Pulls.{three_ok}
use Rattle.resultset.proofs.binary_pulling.fill.Goals as goal

pub returns : goal.returns
returns g c = record {
  ok =
      three_ok c.fill_rows_end.result c.args.filling.now c.fill_head.new.filling c.fill_binary_rows.new.filling c.fill_rows_end.new.filling
      c.args.number c.in_ok-number.number c.in_ok-number-2.number
      (head_payloads c.args.end c.args.columns.now c.args.status) (map (binary_row_payload c.as_slice.result.now) (g.R.Operator.to_come c.args.rows.now)) (after_rows c.args.end c.args.status) _
      c.in_ok-number.ensures.ok c.in_ok-number.ensures.next c.in_ok-number-2.ensures.ok c.in_ok-number-2.ensures.next c.fill_rows_end.ensures.ok
      (binary_shape c.args.end c.args.status c.args.columns.now c.as_slice.result.now (g.R.Operator.to_come c.args.rows.now) (c.as_slice.ensures ∙ c.in_ok-kinds.ensures.ok));
}
