use Rattle.std.proofs.Common.{◌∙◌}
use Rattle.vt_value.specs.Values.{value_at}
use Rattle.sql_eval.proofs.RowLemmas.{same_row-map}
use Rattle.shard_store.proofs.primary.same_key.Goals as goal

pub returns : goal.returns
returns c =
    let every = rw c.as_slice.ensures at c.same_at_each.ensures in
    every ∙ same_row-map (value_at c.args.a.now) (value_at c.args.b.now) c.args.table.now.primary_key
