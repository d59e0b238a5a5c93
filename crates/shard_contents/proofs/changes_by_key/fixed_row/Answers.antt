use Rattle.std.proofs.Common.{◌∙◌}
use Rattle.shard_contents.proofs.KeyPositions.{key_more, value_is}
use Rattle.shard_contents.proofs.changes_by_key.fixed_row.Goals as goal

pub loop-column-preserved : goal.loop-column-preserved
loop-column-preserved c = λ row h.
    key_more c.args.columns.now c.loop-column.column-index row c.loop-column.values c.push.new.self c.in_ok-copy-in-Some.field-0 c.loop-column-test.true
    c.in_ok-push-in-Some.ensures.ok (c.loop-column.invariant row h) (c.in_ok-copy-in-Some.ensures.ok ∙ value_is c.in-Some.value.now _ (c.in-Some.ensures row h))
