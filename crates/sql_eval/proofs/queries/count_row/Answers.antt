use Rattle.std.proofs.Common.{◌≡◌, ◌∙◌, ◌++◌, ◌∷◌, [], sym, arith}
use Rattle.std.proofs.lemmas.Grind.{common_steps}
use Rattle.sql_eval.specs.inner.Parts.{counted_row}
use Rattle.sql_eval.proofs.Counted.{counted_more}
use Rattle.sql_eval.proofs.queries.count_row.Goals as goal

pub loop-preserved : goal.loop-preserved
loop-preserved c =
    c.in_ok-push.ensures.ok ∙ (λ j. c.loop.invariant j ++ c.count_value.ensures j ∷ [])
    ∙ sym (counted_more c.args.aggregates.now c.loop.index c.args.count c.loop-test.true)

pub returns : goal.returns
returns c =
    let ok : c.push-2.new.self ≡ counted_row c.args.aggregates.now c.args.count ∷ [] = grind (arith, common_steps) in record { ok = ok }
