use Rattle.std.proofs.Common.{◌∙◌, filter, sym}
use Rattle.std.specs.Prelude.{slice_index}
use Rattle.std.proofs.lemmas.Result.{IfOk-weaker}
use Rattle.vt_value.specs.Values.{value_at}
use Rattle.sql_eval.proofs.DistinctRows.{filter_true}
use Rattle.key_intervals.specs.Listed.{is_among}
use Rattle.shard_store.specs.Slots.{rows_in}
use Rattle.shard_store.proofs.table.StoredTable.rows_among.Goals as goal

pub returns : goal.returns
returns c =
    record {
      ok = IfOk-weaker c.kept_among.result _ _
          (λ rows is. sym (filter_true rows) ∙ is
          ∙ filter_true (filter (λ row. is_among c.args.values.now (value_at row (slice_index c.args.self.now.ordinals 0))) (rows_in c.args.self.now.slots)))
          c.kept_among.ensures.ok;
    }
