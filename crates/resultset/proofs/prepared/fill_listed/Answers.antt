use Rattle.std.proofs.lemmas.Bool.{iff_false}
use Rattle.resultset.proofs.PreparedPulls.{listed_ok, listed_next}
use Rattle.resultset.proofs.prepared.fill_listed.Goals as goal

pub returns-clause-ok : goal.returns-clause-ok
returns-clause-ok c =
    listed_ok c.fill_definitions_end.result c.args.end c.args.status c.args.columns.now c.args.filling.now c.fill_definitions.new.filling c.fill_definitions_end.new.filling
    c.args.number c.in_ok-number.number (iff_false c.has_none.ensures c.if-has_none.false) c.in_ok-number.ensures.ok c.in_ok-number.ensures.next c.fill_definitions_end.ensures.ok

pub returns-clause-next : goal.returns-clause-next
returns-clause-next c =
    listed_next c.fill_definitions_end.result c.args.end c.args.status c.args.columns.now c.args.filling.now c.fill_definitions.new.filling
    c.args.number c.in_ok-number.number (iff_false c.has_none.ensures c.if-has_none.false) c.in_ok-number.ensures.ok c.in_ok-number.ensures.next c.fill_definitions_end.ensures.next
