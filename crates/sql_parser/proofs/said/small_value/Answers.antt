use Rattle.std.proofs.Common.{◌≡◌, ◌+◌, ◌-◌, ◌<◌, ◌∙◌, get_or, length, arith, refl, sym, ap, add-one, drop-cons}
use Rattle.sql_lexer.specs.Lexemes.{digits_onto}
use Rattle.sql_parser.proofs.Digits.{room_at_first, room_for_digit, room_is_in_64_bits}
use Rattle.sql_parser.proofs.said.small_value.Goals as goal

pub loop-digit-init : goal.loop-digit-init
loop-digit-init c = record { fits = room_at_first (length c.args.digits.now - 0) (omega arith); reads = refl }

pub overflow_mul-value : goal.overflow_mul-value
overflow_mul-value c =
    let left = length c.args.digits.now - c.loop-digit.digit-index in
    let next = room_for_digit left c.loop-digit.value 0 (omega arith) (omega arith) (omega arith) c.loop-digit.invariant.fits in
    let most = room_is_in_64_bits (left - 1) (omega arith) in
    omega arith

pub overflow_add-value : goal.overflow_add-value
overflow_add-value c =
    let i = c.loop-digit.digit-index in
    let left = length c.args.digits.now - i in
    let digit = get_or c.args.digits.now i 0 in
    let fit = c.type_inv.digits i in
    let byte : digit < 256 = omega arith in
    let is : c.from.result ≡ digit - 0x30 = c.from.ensures ∙ c.saturating_sub.ensures in
    let next = room_for_digit left c.loop-digit.value digit (omega arith) (omega arith) byte c.loop-digit.invariant.fits in
    let most = room_is_in_64_bits (left - 1) (omega arith) in
    omega arith

pub loop-digit-preserved : goal.loop-digit-preserved
loop-digit-preserved c =
    let i = c.loop-digit.digit-index in
    let left = length c.args.digits.now - i in
    let digit = get_or c.args.digits.now i 0 in
    let fit = c.type_inv.digits i in
    let byte : digit < 256 = omega arith in
    let is : c.from.result ≡ digit - 0x30 = c.from.ensures ∙ c.saturating_sub.ensures in
    let next = room_for_digit left c.loop-digit.value digit (omega arith) (omega arith) byte c.loop-digit.invariant.fits in
    let cut = drop-cons c.args.digits.now i 0 (omega arith) in
    let fewer : left - 1 ≡ length c.args.digits.now - (i + 1) = omega arith in
    record {
      fits = rw (is, ← fewer) next;
      reads = rw (add-one, is) (sym (ap (digits_onto c.loop-digit.value) cut) ∙ c.loop-digit.invariant.reads);
    }
