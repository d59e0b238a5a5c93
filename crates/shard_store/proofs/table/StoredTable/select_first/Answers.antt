use Rattle.std.proofs.lemmas.Result.{IfOk-weaker}
use Rattle.shard_store.specs.Slots.{rows_in}
use Rattle.shard_store.proofs.BackWalks.{answer_back}
use Rattle.shard_store.proofs.table.StoredTable.select_first.Goals as goal

pub returns-in_ok-rows-in-Backward : goal.returns-in_ok-rows-in-Backward
returns-in_ok-rows-in-Backward c =
    record {
      ok = IfOk-weaker c.select_extreme-in-Backward.result _ _
          (λ list. answer_back c.args.query.now c.in_ok-rows-in-Backward.rows (rows_in c.args.self.now.slots) list c.in_ok-rows-in-Backward.ensures.ok)
          c.select_extreme-in-Backward.ensures.ok;
    }
