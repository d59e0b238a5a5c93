use Rattle.std.proofs.Common.{length, map}
use Rattle.mysql_packet.specs.Numbers.{length_encoded}
use Rattle.resultset.specs.Encoding.{definition_payload, after_definitions}
use Rattle.resultset.proofs.Pulls.{head_ok, head_next}
use Rattle.resultset.proofs.pulling.fill_head.Goals as goal

pub returns-clause-ok : goal.returns-clause-ok
returns-clause-ok c =
    head_ok c.fill_definitions_end.result c.args.filling.now c.fill_count.new.filling c.fill_definitions.new.filling c.fill_definitions_end.new.filling
    c.args.number c.in_ok-number.number c.in_ok-number-2.number
    (length_encoded (length c.args.columns.now)) (map definition_payload c.args.columns.now) (after_definitions c.args.end c.args.status)
    c.in_ok-number.ensures.ok c.in_ok-number.ensures.next c.in_ok-number-2.ensures.ok c.in_ok-number-2.ensures.next c.fill_definitions_end.ensures.ok

pub returns-clause-next : goal.returns-clause-next
returns-clause-next c =
    head_next c.fill_definitions_end.result c.args.filling.now c.fill_count.new.filling c.fill_definitions.new.filling
    c.args.number c.in_ok-number.number c.in_ok-number-2.number
    (length_encoded (length c.args.columns.now)) (map definition_payload c.args.columns.now) (after_definitions c.args.end c.args.status)
    c.in_ok-number.ensures.ok c.in_ok-number.ensures.next c.in_ok-number-2.ensures.ok c.in_ok-number-2.ensures.next c.fill_definitions_end.ensures.next
