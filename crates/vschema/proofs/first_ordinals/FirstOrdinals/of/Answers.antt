use Rattle.std.proofs.Common.{◌∙◌}
use Rattle.vschema.proofs.FirstOrdinalsLemmas.{placed_before}
use Rattle.vschema.proofs.first_ordinals.FirstOrdinals.of.Goals as goal

pub loop-i-preserved : goal.loop-i-preserved
loop-i-preserved c = λ n.
    c.in_ok-insert.ensures.updates.0 n ∙ placed_before c.args.numbers.now c.loop-i.i n _ c.loop-i-test.true c.loop-i.auto.i (c.loop-i.invariant n)
