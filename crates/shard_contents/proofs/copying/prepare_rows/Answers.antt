use Rattle.std.proofs.Common.{◌<◌, ◌∙◌, length, sym, subst}
use Rattle.std.specs.List.{AllByRecursion}
use Rattle.vschema.specs.declared.changes.RowChange.{RowChange}
use Rattle.vschema.specs.Database.{changed_table}
use Rattle.shard_contents.proofs.CopySteps.{all_added}
use Rattle.shard_contents.proofs.copying.prepare_rows.Goals as goal

pub prepare-requires : goal.prepare-requires
prepare-requires c =
    subst (AllByRecursion (λ (x : RowChange). changed_table x < length c.args.store.now.rows)) (sym (c.as_slice.ensures.value ∙ c.in_ok-changes.ensures.ok))
    (all_added c.args.table (length c.args.store.now.rows) c.args.rows.now c.requires)
