use Rattle.std.proofs.Common.{ℕ, subst, arith}
use Rattle.shard_contents.specs.inner.OwnChanges.{IsPositioned}
use Rattle.shard_contents.proofs.ChangeLists.{one_positioned}
use Rattle.shard_contents.proofs.own_changes.add_changes.Goals as goal

pub loop-change-preserved : goal.loop-change-preserved
loop-change-preserved c =
    let so_far = c.loop-change.invariant in
    record {
      next = (let e = so_far.next in omega (arith, e));
      kept = λ n table row h. c.in_ok-add_change.ensures.kept n table row (so_far.kept n table row h);
      positioned =
          one_positioned c.args.first c.loop-change.by_key.items c.add_change.new.by_key.items c.args.changes.now c.loop-change.change-index c.change-item.result
          c.loop-change-test.true c.change-item.is c.in_ok-add_change.ensures.kept so_far.positioned
          (subst (λ (n : ℕ). IsPositioned c.add_change.new.by_key.items n c.change-item.result) so_far.next c.in_ok-add_change.ensures.ok);
    }
