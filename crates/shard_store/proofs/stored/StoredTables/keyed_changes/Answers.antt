use Rattle.std.proofs.Common.{◌≡◌, ◌∙◌, ap, subst, length, take, arith}
use Rattle.shard_store.specs.Stores.{changes_in}
use Rattle.shard_store.specs.inner.Stores.{DoTheSame}
use Rattle.shard_store.proofs.Splits.{same_next, take_all}
use Rattle.shard_store.proofs.stored.StoredTables.keyed_changes.Goals as goal

pub loop-change-preserved : goal.loop-change-preserved
loop-change-preserved c = record {
  keys = c.in_ok-push_change.ensures.keys;
  changes = same_next c.args.changes.now (changes_in c.loop-change.keyed.items) (changes_in c.push_change.new.keyed.items) c.loop-change.change-index c.change-item.result
      c.loop-change-test.true c.change-item.is c.loop-change.invariant.changes c.in_ok-push_change.ensures.changes;
}

pub returns-clause-changes : goal.returns-clause-changes
returns-clause-changes c =
    let past : c.loop-change.change-index ≡ length c.args.changes.now = omega (arith, c.loop-change-test.false, c.loop-change.auto.change-index-end) in
    subst (DoTheSame (changes_in c.loop-change.keyed.items)) (ap (λ n. take n c.args.changes.now) past ∙ take_all c.args.changes.now) c.loop-change.invariant.changes
