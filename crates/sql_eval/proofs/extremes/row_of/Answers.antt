use Rattle.std.proofs.Common.{◌∙◌, ◌++◌, ◌∷◌, [], sym}
use Rattle.sql_eval.proofs.ExtremeRows.{values_more}
use Rattle.sql_eval.proofs.extremes.row_of.Goals as goal

pub loop-preserved : goal.loop-preserved
loop-preserved c =
    c.in_ok-push.ensures.ok ∙ (λ j. c.loop.invariant j ++ c.in_ok-copy.ensures.ok j ∷ [])
    ∙ sym (values_more c.args.items.now c.loop.index c.args.value.now c.loop-test.true)
