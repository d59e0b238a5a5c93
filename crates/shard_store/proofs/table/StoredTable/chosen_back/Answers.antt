use Rattle.std.proofs.Common.{◌≡◌, ◌∙◌, ℕ, Bool, List, None, true, ap, subst, filter, reverse}
use Rattle.std.proofs.lemmas.Result.{IfOk-weaker}
use Rattle.vt_value.specs.Values.{Row}
use Rattle.sql_eval.specs.Conditions.{is_kept}
use Rattle.key_intervals.specs.Intervals.{in_interval}
use Rattle.shard_store.specs.Slots.{rows_in}
use Rattle.shard_store.specs.Tables.{key_at}
use Rattle.shard_store.specs.inner.Chosen.{lies_between}
use Rattle.shard_store.proofs.KeptRows.{filter_weaker}
use Rattle.shard_store.proofs.Keyed.{lies_inside}
use Rattle.shard_store.proofs.BackWalks.{filter_back}
use Rattle.shard_store.proofs.table.StoredTable.chosen_back.Goals as goal

pub returns : goal.returns
returns c =
    let k = is_kept c.args.condition.now in
    let keys = c.in_ok-keys.keys in
    let t = c.args.self.now in
    let between : Row → Bool = λ row. lies_between None keys (key_at t.ordinals row) in
    record {
      ok = IfOk-weaker c.rows_back.result _ _
          (λ rows is.
          ap (filter k) is ∙ filter_back k (filter between (rows_in t.slots))
          ∙ ap reverse (filter_weaker k between
          (λ row kept. lies_inside keys (key_at t.ordinals row) (subst (λ (l : List ℕ). in_interval keys (key_at l row) ≡ true) c.key_columns.ensures (c.in_ok-keys.ensures row kept)))
          (rows_in t.slots)))
          c.rows_back.ensures.ok;
    }
