use Rattle.std.proofs.Common.{◌∙◌, ◌==◌, List, position, ap, sym}
use Rattle.shard_contents.specs.inner.OwnChanges.{ByKeyView}
use Rattle.shard_contents.proofs.ChangeLists.{table_found}
use Rattle.shard_contents.proofs.own_changes.table_at.Goals as goal

pub returns-in-Some-clause-ok : goal.returns-in-Some-clause-ok
returns-in-Some-clause-ok c =
    table_found c.args.by_key.now.items c.args.table c.in-Some.ordinal
    (ap (λ (l : List ByKeyView). position (λ (v : ByKeyView). v.table == c.args.table) l) (sym c.as_slice.ensures.value) ∙ sym c.ordinal_of.ensures ∙ c.in-Some.is)
