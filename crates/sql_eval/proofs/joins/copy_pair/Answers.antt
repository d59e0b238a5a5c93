use Rattle.std.proofs.Common.{◌++◌, ◌∷◌, [], ◌∙◌, sym}
use Rattle.sql_eval.proofs.PairValues.{padded_next}
use Rattle.sql_eval.proofs.joins.copy_pair.Goals as goal

pub loop-ordinal-preserved : goal.loop-ordinal-preserved
loop-ordinal-preserved c =
    c.in_ok-push.ensures.ok ∙ (λ i. c.loop-ordinal.invariant i ++ (c.in_ok-copy.ensures.ok ∙ c.value_at.ensures) i ∷ [])
    ∙ sym (padded_next c.loop-ordinal.ordinal c.args.first.now)
