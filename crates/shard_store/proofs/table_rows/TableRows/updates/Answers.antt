use Rattle.std.proofs.Common.{◌∙◌}
use Rattle.std.proofs.lemmas.Result.{IfOk-weaker}
use Rattle.shard_store.specs.Chosen.{rows_at, rows_chosen}
use Rattle.shard_store.proofs.KeptRows.{updates_alike}
use Rattle.shard_store.proofs.table_rows.TableRows.updates.Goals as goal

pub returns-in-Some : goal.returns-in-Some
returns-in-Some c = record {
  ok = (let same = rw c.in-Some.is at c.in_ok-found.ensures.ok in
      IfOk-weaker c.updates_from.result _ _
      (λ changes is. is ∙ updates_alike c.args.ordinal c.args.assignments.now c.args.condition.now (rows_at c.in-Some.found) c.args.self.now.rows same) c.updates_from.ensures.ok);
}

pub returns : goal.returns
returns c = record {
  ok = (IfOk-weaker c.updates_from-2.result _ _
      (λ changes is. is ∙ updates_alike c.args.ordinal c.args.assignments.now c.args.condition.now (rows_chosen c.in_ok-rows.rows) c.args.self.now.rows c.in_ok-rows.ensures.ok) c.updates_from-2.ensures.ok);
}
