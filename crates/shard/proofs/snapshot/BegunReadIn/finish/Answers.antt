use Rattle.std.proofs.Common.{◌≡◌, List, refl, ap, subst}
use Rattle.vschema.specs.declared.changes.RowChange.{RowChange}
use Rattle.shard_contents.specs.Transactions.{PendingView}
use Rattle.shard.specs.inner.Snapshots.{IsGivenBy}
use Rattle.shard.proofs.BegunReads.{read_in_so}
use Rattle.shard.proofs.snapshot.BegunReadIn.finish.Goals as goal

pub returns-clause-read : goal.returns-clause-read
returns-clause-read c o run s has =
    let own : c.tx.inside.changes ≡ c.args.tx.now.changes = ap (λ (x : PendingView). x.changes) c.tx.view_is in
    let given = subst (λ (changes : List RowChange). IsGivenBy c.args.query.now changes c.args.self.rows c.in_ok-rows.rows) own c.in_ok-rows.ensures.ok in
    read_in_so o run s c.args.tx.now c.touch.new.self c.args.query.now c.args.self c.in_ok-rows.rows c.args.self.entries given refl c.in_ok-touch.ensures.ok has
