use Rattle.std.proofs.Common.{◌∙◌, sym}
use Rattle.shard_contents.specs.inner.Stores.{is_selected}
use Rattle.shard_contents.proofs.Wanted.{unwanted_removed}
use Rattle.shard_contents.proofs.transaction_rows.remove_wanted.Goals as goal

pub returns : goal.returns
returns c =
    record { ok = unwanted_removed (is_selected c.args.wanted) c.args.row.now c.args.rows.now.rows (sym c.wants.ensures ∙ c.if-wants.false) }
