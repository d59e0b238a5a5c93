use Rattle.std.proofs.Common.{◌+◌, drop, get_or, ap, sym, ◌∙◌}
use Rattle.std.proofs.lemmas.List.{drop_more, drop_all}
use Rattle.std.specs.List.{list_all}
use Rattle.sql_tree.specs.Lexemes.{is_digit, digits_onto}
use Rattle.vschema_json.proofs.Sizes.{stopped, sized}
use Rattle.vschema_json.proofs.parts.size.Goals as goal

pub returns-in_err-size : goal.returns-in_err-size
returns-in_err-size c =
    let l = c.loop-digit in
    let digits = c.args.digits.now in
    let next = drop_more digits l.digit-index 0 c.loop-digit-test.true in
    c.from_residual.ensures
    ∙ stopped l.size (get_or digits l.digit-index 0) (drop (l.digit-index + 1) digits) digits c.in_err-size.ensures.none (ap (list_all is_digit) (sym next) ∙ l.invariant.0)
    (ap (digits_onto l.size) (sym next) ∙ l.invariant.1)

pub returns : goal.returns
returns c =
    let l = c.loop-digit in
    let digits = c.args.digits.now in
    let none = drop_all l.digit-index digits c.loop-digit-test.false in
    sized digits l.size (sym c.begins_above_zero.ensures ∙ c.if-not-begins_above_zero.false) (sym (ap (list_all is_digit) none) ∙ l.invariant.0)
    (sym (ap (digits_onto l.size) none) ∙ l.invariant.1) l.invariant.2
