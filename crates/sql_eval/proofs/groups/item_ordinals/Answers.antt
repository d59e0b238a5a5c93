use Rattle.std.proofs.Common.{arith}
use Rattle.std.proofs.lemmas.Grind.{common_steps}
use Rattle.sql_eval.proofs.OrdinalLemmas.{placed}
use Rattle.sql_eval.proofs.groups.item_ordinals.Goals as goal

pub loop-item-preserved : goal.loop-item-preserved
loop-item-preserved c =
    let found = placed c.in_ok-first.first c.args.columns.now c.in_ok-first.ensures in
    grind (arith, common_steps, found)
