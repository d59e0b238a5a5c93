use Rattle.std.proofs.Common.{refl, List, subst, sym}
use Rattle.std.proofs.lemmas.Result.{IfOk-weaker}
use Rattle.vt_value.specs.Values.{Row}
use Rattle.sql_eval.specs.Sources.{pairs_of}
use Rattle.sql_eval.specs.Groups.{CanBeSummed}
use Rattle.sql_eval.proofs.SameAnswers.{same_answers}
use Rattle.shard_store.specs.Chosen.{rows_chosen}
use Rattle.shard_store.proofs.KeptPairs.{seconds_permuted, summed_permuted, answer_of_same_kept}
use Rattle.shard_store.proofs.table_rows.TableRows.select_with.Goals as goal

pub select_by_value-requires : goal.select_by_value-requires
select_by_value-requires c κs = (
  (refl, tt),
  λ aggregated few.
      let j = c.args.join in
      let first = c.args.self.now.rows in
      let second = c.args.second.now.rows in
      let found = c.in_ok-seconds.seconds.rows in
      subst (λ (l : List Row). CanBeSummed (pairs_of j l found)) (sym (c.in_ok-firsts.ensures.all aggregated))
      (summed_permuted (pairs_of j first found) (pairs_of j first second) (seconds_permuted j first found second c.in_ok-seconds.ensures.ok)
      (c.requires.summed aggregated)),
)

pub returns : goal.returns
returns c = record {
  ok = (let q = c.args.query.now in
      let j = c.args.join in
      let first = c.args.self.now.rows in
      let second = c.args.second.now.rows in
      let found = c.in_ok-seconds.seconds.rows in
      let chosen = rows_chosen c.in_ok-firsts.firsts in
      IfOk-weaker c.select_by_value.result _ _
      (λ list answer. same_answers q (pairs_of j first found) (pairs_of j first second) list (seconds_permuted j first found second c.in_ok-seconds.ensures.ok)
      (answer_of_same_kept q (pairs_of j chosen found) (pairs_of j first found) list (c.in_ok-firsts.ensures.kept found) answer))
      c.select_by_value.ensures.ok);
}
