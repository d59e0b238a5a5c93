use Rattle.std.proofs.Common.{filter, option_copied}
use Rattle.sql_eval.specs.Conditions.{is_kept}
use Rattle.shard_store.specs.Slots.{rows_in}
use Rattle.shard_store.specs.Tables.{begins_with}
use Rattle.shard_store.proofs.Among.{more_walked, none_walked}
use Rattle.shard_store.proofs.table.StoredTable.walks_with.Goals as goal

pub loop-value-preserved : goal.loop-value-preserved
loop-value-preserved c =
    more_walked (is_kept (option_copied c.args.condition)) (λ v. filter (begins_with c.args.self.now.ordinals v) (rows_in c.args.self.now.slots)) c.loop-value.last c.value-item.result
    c.args.sorted.now c.loop-value.value-index c.loop-value.walks.items c.comes_after.result _ c.loop-value-test.true c.value-item.is c.comes_after.ensures
    c.loop-value.invariant _ _ c.if-not-comes_after.false c.in_ok-walk_with.ensures.ok c.in_ok-push.ensures.items

pub loop-value-preserved-then-not-comes_after : goal.loop-value-preserved-then-not-comes_after
loop-value-preserved-then-not-comes_after c =
    none_walked (is_kept (option_copied c.args.condition)) (λ v. filter (begins_with c.args.self.now.ordinals v) (rows_in c.args.self.now.slots)) c.loop-value.last c.value-item.result
    c.args.sorted.now c.loop-value.value-index c.loop-value.walks.items c.comes_after.result _ c.loop-value-test.true c.value-item.is c.comes_after.ensures
    c.loop-value.invariant c.if-not-comes_after.true
