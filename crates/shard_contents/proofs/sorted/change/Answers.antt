use Rattle.std.proofs.Common.{[], ◌∷◌, ◌++◌, ◌∙◌, subst, sym, ap, IsPermutation}
use Rattle.std.proofs.lemmas.Result.{on_ok_weaker}
use Rattle.vt_value.specs.Values.{Row}
use Rattle.vschema.specs.declared.changes.RowChange.{RowChange}
use Rattle.vschema.specs.Database.{without}
use Rattle.shard_store.specs.SharedChanges.{row_change}
use Rattle.shard_contents.specs.inner.Stores.{row_after}
use Rattle.shard_contents.proofs.Earlier.{replaced}
use Rattle.shard_contents.proofs.sorted.change.Goals as goal

pub returns-in_ok-remove-in-Replaced : goal.returns-in_ok-remove-in-Replaced
returns-in_ok-remove-in-Replaced c =
    record {
      ok = (
          on_ok_weaker c.add_copy-in-Replaced.result
          (λ added.
          subst (λ (x : RowChange). IsPermutation c.add_copy-in-Replaced.new.rows.rows (row_after x c.args.rows.now.rows)) (ap row_change (sym c.in-Replaced.is) ∙ c.rows.ensures)
          (replaced c.in-Replaced.field-0 c.in-Replaced.old c.in-Replaced.new c.args.rows.now.rows c.remove.new.rows.rows c.add_copy-in-Replaced.new.rows.rows
          (subst (λ (r : Row). IsPermutation c.remove.new.rows.rows (without r c.args.rows.now.rows)) c.get-in-Replaced.ensures c.in_ok-remove-in-Replaced.ensures.ok)
          (subst (λ (r : Row). IsPermutation c.add_copy-in-Replaced.new.rows.rows (c.remove.new.rows.rows ++ r ∷ [])) c.get-in-Replaced-2.ensures added)))
          c.add_copy-in-Replaced.ensures.ok
          );
    }
