use Rattle.std.proofs.Common.{IfOk, IfSome, sym, subst}
use Rattle.shard_contents.specs.declared.transaction_rows.RowSelection.{RowSelection}
use Rattle.shard_contents.specs.inner.OwnChanges.{HasPositions}
use Rattle.shard_contents.specs.inner.Stores.{is_selected}
use Rattle.shard_contents.proofs.transaction_rows.positions_of.Goals as goal

pub returns-in-Keyed-clause-ok : goal.returns-in-Keyed-clause-ok
returns-in-Keyed-clause-ok c =
    subst
    (λ (w : RowSelection). IfOk c.keyed_positions.result (λ found. IfSome found (λ v. HasPositions (is_selected w) c.args.ordinal c.args.changes.now v.items)))
    (sym c.in-Keyed.is) c.keyed_positions.ensures.ok
