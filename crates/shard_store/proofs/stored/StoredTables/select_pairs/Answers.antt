use Rattle.std.proofs.Common.{◌∙◌, List, ap, sym, subst}
use Rattle.std.specs.Prelude.{IfOk}
use Rattle.vt_value.specs.Values.{Row}
use Rattle.sql_eval.specs.Database.{rows_of}
use Rattle.sql_eval.specs.Sources.{pairs_of}
use Rattle.sql_eval.specs.Queries.{IsAnswer}
use Rattle.shard_store.proofs.KeptPairs.{no_seconds}
use Rattle.shard_store.proofs.stored.StoredTables.select_pairs.Goals as goal

pub returns-in_default-table : goal.returns-in_default-table
returns-in_default-table c = record {
  ok = (let j = c.args.join in
      let firsts = rows_of c.args.self.now.rows c.args.query.now.table in
      let none = ap (pairs_of j firsts) c.in_default-table.ensures ∙ no_seconds j firsts in
      subst (λ (l : List Row). IfOk c.select_local-in_default-table.result (IsAnswer c.args.query.now l)) (sym none) c.select_local-in_default-table.ensures.ok);
}
