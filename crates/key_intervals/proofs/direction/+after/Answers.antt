use Rattle.std.proofs.Common.{◌∙◌}
use Rattle.key_intervals.proofs.DirectionLemmas.{key_passed, some_weaker}
use Rattle.key_intervals.proofs.direction.+after.Goals as goal

pub returns-in-Some-2 : goal.returns-in-Some-2
returns-in-Some-2 t c =
    some_weaker c.after.result _ _
    (λ later h a b ka kb.
    key_passed c.args.columns.now c.in-Some.later.now c.in-Some.first.now a b c.in-Some.ensures.cases.0 (c.is_fixed.ensures c.if-is_fixed.true a b ka kb)
    ∙ h a b ka kb)
    c.after.ensures
