use Rattle.std.proofs.Common.{◌∙◌, ◌++◌, ◌∷◌, [], List, ap}
use Rattle.std.proofs.lemmas.Result.{IfOk-weaker}
use Rattle.vt_value.specs.declared.value.Value.{Value}
use Rattle.key_intervals.proofs.KeyLemmas.{own_low, known_low, whole_inside, lone_inside}
use Rattle.key_intervals.proofs.keys.+narrowed.Goals as goal

pub returns-in_default-clause-ok : goal.returns-in_default-clause-ok
returns-in_default-clause-ok t c = λ row true below. whole_inside c.args.known c.args.below _ below

pub returns-in_default-clause-from : goal.returns-in_default-clause-from
returns-in_default-clause-from t c = own_low c.args.known

pub returns-in_ok-known-in-Some-lone_value-clause-ok : goal.returns-in_ok-known-in-Some-lone_value-clause-ok
returns-in_ok-known-in-Some-lone_value-clause-ok t c =
    IfOk-weaker c.narrowed.result _ _
    (λ keys inside row true.
    lone_inside c.interval_of-values.result c.args.known c.in_ok-known-in-Some-lone_value.known c.args.below c.in_ok-below.below c.in-Some-lone_value.value.now
    c.in_ok-copy-in-Some-lone_value.field-0 c.in-Some.column.now c.args.columns.now c.in-Some.columns.now keys row c.in-Some.ensures.cases.0
    c.in_ok-copy-in-Some-lone_value.ensures.ok
    (c.in_ok-known-in-Some-lone_value.ensures.ok ∙ ap (λ (k : List Value). k ++ c.in_ok-copy-in-Some-lone_value.field-0 ∷ []) c.known.view_is)
    c.in-Some-lone_value.ensures c.in_ok-below.ensures.ok
    (c.interval_of-values.ensures row true) (inside row true))
    c.narrowed.ensures.ok

pub returns-in_ok-known-in-Some-lone_value-clause-from : goal.returns-in_ok-known-in-Some-lone_value-clause-from
returns-in_ok-known-in-Some-lone_value-clause-from t c =
    IfOk-weaker c.narrowed.result _ _
    (λ keys low. known_low c.args.known c.in_ok-known-in-Some-lone_value.known c.in_ok-copy-in-Some-lone_value.field-0 keys.from
    (c.in_ok-known-in-Some-lone_value.ensures.ok ∙ ap (λ (k : List Value). k ++ c.in_ok-copy-in-Some-lone_value.field-0 ∷ []) c.known.view_is) low)
    c.narrowed.ensures.from
