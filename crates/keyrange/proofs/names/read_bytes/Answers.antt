-- Where a byte string has these digits, it begins with what was read, and the next digits are of its next byte.
use Rattle.std.proofs.Common.{◌/◌, ◌%◌, Some, length, ap, sym, ◌∙◌, arith}
use Rattle.std.proofs.lemmas.Bool.{eqb-true}
use Rattle.keyrange.proofs.Hex.{NextByte, next_byte, all_read, never_odd, one_left}
use Rattle.keyrange.proofs.names.read_bytes.Goals as goal

pub returns-then-len-eq8-clause-spelled : goal.returns-then-len-eq8-clause-spelled
returns-then-len-eq8-clause-spelled c edge bytes short spelled =
    let next = next_byte c.loop-rest.edge edge c.loop-rest.rest.now c.loop-rest.invariant.bytes bytes (spelled ∙ sym c.loop-rest.invariant.spelled) (omega arith) in
    absurd (omega arith)

pub returns-in_err-digit_value-clause-spelled : goal.returns-in_err-digit_value-clause-spelled
returns-in_err-digit_value-clause-spelled c edge bytes short spelled =
    let next : NextByte c.loop-rest.edge edge c.loop-rest.rest.now = next_byte c.loop-rest.edge edge c.loop-rest.rest.now c.loop-rest.invariant.bytes bytes (spelled ∙ sym c.loop-rest.invariant.spelled) (omega arith) in
    absurd (c.in_err-digit_value.ensures.none (next.byte / 16) (omega arith) next.high)

pub returns-in_err-digit_value-2-clause-spelled : goal.returns-in_err-digit_value-2-clause-spelled
returns-in_err-digit_value-2-clause-spelled c edge bytes short spelled =
    let next : NextByte c.loop-rest.edge edge c.loop-rest.rest.now = next_byte c.loop-rest.edge edge c.loop-rest.rest.now c.loop-rest.invariant.bytes bytes (spelled ∙ sym c.loop-rest.invariant.spelled) (omega arith) in
    absurd (c.in_err-digit_value-2.ensures.none (next.byte % 16) (omega arith) next.low)

pub returns-then-is_empty-clause-spelled : goal.returns-then-is_empty-clause-spelled
returns-then-is_empty-clause-spelled c edge bytes short spelled =
    let all = all_read c.loop-rest.edge edge c.loop-rest.rest.now c.loop-rest.invariant.bytes bytes (spelled ∙ sym c.loop-rest.invariant.spelled) (eqb-true (length c.loop-rest.rest.now) 0 (cc)) in
    ap Some all

pub returns-else-is_empty-clause-spelled : goal.returns-else-is_empty-clause-spelled
returns-else-is_empty-clause-spelled c edge bytes short spelled =
    absurd (never_odd c.loop-rest.edge edge c.loop-rest.rest.now c.loop-rest.invariant.bytes bytes (spelled ∙ sym c.loop-rest.invariant.spelled)
    (one_left (length c.loop-rest.rest.now) (cc) c.in_default.len_below))
