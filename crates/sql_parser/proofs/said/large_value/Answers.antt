use Rattle.std.proofs.Common.{◌≡◌, ◌+◌, ◌-◌, ◌*◌, ◌∷◌, ◌∙◌, suc, drop, get_or, length, arith, sym, ap, add-one, drop-cons}
use Rattle.std.proofs.lemmas.List.{length-drop}
use Rattle.sql_lexer.specs.Lexemes.{digits_onto}
use Rattle.sql_parser.specs.inner.Reading.{fitting}
use Rattle.sql_parser.proofs.Digits.{fits, fitting_is, stays_too_large, all_read}
use Rattle.sql_parser.proofs.said.large_value.Goals as goal

pub returns-in_err-value : goal.returns-in_err-value
returns-in_err-value c =
    let i = c.loop-digit.digit-index in
    let rest = drop i c.args.digits.now ≡ get_or c.args.digits.now i 0 ∷ drop (suc i) c.args.digits.now in
    let cut : rest = drop-cons c.args.digits.now i 0 (omega arith) in
    let e = stays_too_large c.loop-digit.value (get_or c.args.digits.now i 0) (drop (suc i) c.args.digits.now) (sym c.in_err-value.ensures) in
    let whole = ap (digits_onto c.loop-digit.value) cut in
    c.from_residual.ensures ∙ sym e ∙ ap fitting (sym whole ∙ c.loop-digit.invariant.reads)

pub loop-digit-preserved : goal.loop-digit-preserved
loop-digit-preserved c =
    let i = c.loop-digit.digit-index in
    let digit = get_or c.args.digits.now i 0 in
    let cut = drop-cons c.args.digits.now i 0 (omega arith) in
    let f = fitting_is (c.loop-digit.value * 10 + (digit - 0x30)) c.in_ok-value.value (sym c.in_ok-value.ensures) in
    record {
      fits = f.0;
      reads = rw (add-one, ← f.1) (sym (ap (digits_onto c.loop-digit.value) cut) ∙ c.loop-digit.invariant.reads);
    }

pub returns : goal.returns
returns c =
    let value = c.loop-digit.value in
    let all = drop c.loop-digit.digit-index c.args.digits.now in
    let none : length all ≡ 0 = omega (arith, length-drop c.loop-digit.digit-index c.args.digits.now) in
    sym (fits value c.loop-digit.invariant.fits) ∙ ap fitting (sym (all_read value all none) ∙ c.loop-digit.invariant.reads)
