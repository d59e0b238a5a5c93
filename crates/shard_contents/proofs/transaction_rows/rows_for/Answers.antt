use Rattle.std.proofs.Common.{Bool}
use Rattle.std.proofs.lemmas.Result.{IfOk-weaker}
use Rattle.vt_value.specs.Values.{Row}
use Rattle.vschema.specs.Schema.{key_of}
use Rattle.vschema.specs.Database.{rows_of, same_row, all_applied}
use Rattle.shard_contents.proofs.Wanted.{any_wanted}
use Rattle.shard_contents.proofs.transaction_rows.rows_for.Goals as goal

pub returns : goal.returns
returns c =
    record {
      ok = (let t = c.args.table.now in
          let f : Row → Row → Bool = λ n r. same_row (key_of t n) (key_of t r) in
          IfOk-weaker c.overlaid_rows.result _ _
          (λ overlaid e. any_wanted f overlaid.rows (rows_of (all_applied c.args.changes.now c.args.store.now.rows) c.args.ordinal) c.args.new.now e) c.overlaid_rows.ensures.ok);
    }
