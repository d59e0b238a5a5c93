use Rattle.std.proofs.Common.{◌∙◌}
use Rattle.resultset.proofs.PreparedPulls.{told_all}
use Rattle.resultset.proofs.prepared.fill.Goals as goal

pub returns : goal.returns
returns c = record {
  ok =
      told_all c.fill_listed-2.result c.args.end c.args.status c.args.filling.now c.fill_short.new.filling c.fill_listed.new.filling c.fill_listed-2.new.filling
      c.prepared_payload-first.result c.args.number c.in_ok-number.number c.in_ok-number-2.number c.args.statement c.args.holes c.args.columns.now c.as_slice.result.now
      c.prepared_payload-first.ensures c.in_ok-number.ensures.ok c.in_ok-number.ensures.next (c.as_slice.ensures ∙ c.in_ok-named.ensures.ok)
      c.in_ok-number-2.ensures.ok c.in_ok-number-2.ensures.next c.fill_listed-2.ensures.ok;
}
