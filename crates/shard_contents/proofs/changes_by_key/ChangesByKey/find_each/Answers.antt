use Rattle.std.proofs.Common.{◌≡◌, true, sym, subst}
use Rattle.vt_value.specs.Values.{Row}
use Rattle.vschema.specs.Checks.{has_number}
use Rattle.shard_contents.specs.inner.OwnChanges.{has_position}
use Rattle.shard_contents.proofs.KeyPositions.{of_one_more_key}
use Rattle.shard_contents.proofs.changes_by_key.ChangesByKey.find_each.Goals as goal

pub loop-key-preserved : goal.loop-key-preserved
loop-key-preserved c = record {
  kept = λ n h. c.in_ok-find.ensures.kept n (c.loop-key.invariant.kept n h);
  found = λ key n h within e.
      of_one_more_key c.args.keys.now c.loop-key.key-index c.key-item.result c.loop-key-test.true c.key-item.is key (has_number c.find.new.found.items n ≡ true)
      (λ t. c.in_ok-find.ensures.kept n (c.loop-key.invariant.found key n t within e))
      (λ same. c.in_ok-find.ensures.ok n within (subst (λ (k : Row). has_position c.args.self.now k n ≡ true) (sym same) e)) h;
}
