use Rattle.std.proofs.Common.{◌≡◌, true}
use Rattle.vschema.specs.Checks.{has_number}
use Rattle.shard_contents.specs.inner.OwnChanges.{is_positioned}
use Rattle.shard_contents.proofs.KeyPositions.{of_one_more}
use Rattle.shard_contents.proofs.own_changes.find_keyed.Goals as goal

pub loop-changes-preserved : goal.loop-changes-preserved
loop-changes-preserved c = λ row n g within e.
    of_one_more (is_positioned n c.args.ordinal row) c.args.by_key.now c.loop-changes.changes-index c.changes-item.result c.loop-changes-test.true c.changes-item.is
    (has_number c.find_keyed.new.found.items n ≡ true) (λ t. c.in_ok-find_keyed.ensures.kept n (c.loop-changes.invariant row n g within t))
    (λ t. c.in_ok-find_keyed.ensures.ok c.if-not-branch.false row n g within t) e
