use Rattle.std.proofs.Common.{arith, sym, ◌∙◌}
use Rattle.std.proofs.lemmas.List.{length-drop}
use Rattle.mysql_packet.proofs.FrontLemmas.{renumbers, waits_part, is_refused, is_whole, goes_on}
use Rattle.mysql_packet.proofs.front.read_front.Goals as goal

pub returns-in-Some : goal.returns-in-Some
returns-in-Some c =
    let number = c.first_number-first.ensures in
    let next = c.read_header-len.ensures in
    is_refused next (renumbers next.number_small number.begins number.goes_on c.loop-rest.invariant) c.in-Some.refusal (sym c.in-Some.ensures)

pub returns-then-rest-len : goal.returns-then-rest-len
returns-then-rest-len c =
    let number = c.first_number-first.ensures in
    let next = c.read_header-len.ensures in
    waits_part next (renumbers next.number_small number.begins number.goes_on c.loop-rest.invariant) (sym c.header_fault.ensures ∙ c.in_default.is)
    (omega (arith, length-drop 4 c.loop-rest.rest.now))

pub returns-then-len-lt-FULL_PART : goal.returns-then-len-lt-FULL_PART
returns-then-len-lt-FULL_PART c =
    let number = c.first_number-first.ensures in
    let next = c.read_header-len.ensures in
    is_whole next (renumbers next.number_small number.begins number.goes_on c.loop-rest.invariant) (sym c.header_fault.ensures ∙ c.in_default.is) number.begins
    (omega (arith, length-drop 4 c.loop-rest.rest.now)) c.if-len-lt-FULL_PART.true

pub loop-rest-preserved : goal.loop-rest-preserved
loop-rest-preserved c =
    let number = c.first_number-first.ensures in
    let next = c.read_header-len.ensures in
    rw c.split_packet.ensures.rest
    (goes_on next (renumbers next.number_small number.begins number.goes_on c.loop-rest.invariant) (sym c.header_fault.ensures ∙ c.in_default.is) number.begins
    (omega (arith, length-drop 4 c.loop-rest.rest.now)) c.if-len-lt-FULL_PART.false)
