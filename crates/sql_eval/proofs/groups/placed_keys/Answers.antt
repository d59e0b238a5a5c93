use Rattle.std.proofs.Common.{◌∙◌}
use Rattle.sql_eval.proofs.OrdinalLemmas.{placed, placed_more}
use Rattle.sql_eval.proofs.groups.placed_keys.Goals as goal

pub loop-key-preserved : goal.loop-key-preserved
loop-key-preserved c =
    let found = c.ordinal_of.ensures ∙ placed c.in_ok-first.first c.args.columns.now c.in_ok-first.ensures _ c.args.other in
    placed_more c.args.columns.now c.args.other c.args.keys.now c.loop-key.placed c.push.new.self c.loop-key.key-index _ _ c.loop-key-test.true
    found c.in_ok-push.ensures.ok c.loop-key.invariant
