use Rattle.std.proofs.Common.{refl, arith}
use Rattle.std.proofs.lemmas.Result.{IfOk-weaker}
use Rattle.std.proofs.lemmas.List.Sorted.{length_permutation}
use Rattle.sql_eval.specs.Sources.{pairs_of}
use Rattle.sql_eval.proofs.SameAnswers.{same_answers}
use Rattle.shard_store.proofs.KeptPairs.{seconds_permuted, summed_permuted}
use Rattle.shard_store.proofs.joined.select_joined.Goals as goal

pub select_by_value-requires : goal.select_by_value-requires
select_by_value-requires g c κs = (
  (refl, tt),
  λ aggregated few.
      let j = c.args.join in
      let firsts = g.S.RowSource.to_come c.args.firsts in
      let seconds = g.T.RowSource.to_come c.args.seconds in
      let found = c.in_ok-seconds.seconds.rows in
      let same = seconds_permuted j firsts found seconds c.in_ok-seconds.ensures.rows in
      let n = length_permutation (pairs_of j firsts found) (pairs_of j firsts seconds) same in
      summed_permuted (pairs_of j firsts found) (pairs_of j firsts seconds) same (c.requires.summed aggregated (omega (arith, n, few))),
)

pub returns : goal.returns
returns g c =
    record {
      ok = (let j = c.args.join in
          let firsts = g.S.RowSource.to_come c.args.firsts in
          let seconds = g.T.RowSource.to_come c.args.seconds in
          let found = c.in_ok-seconds.seconds.rows in
          let same = seconds_permuted j firsts found seconds c.in_ok-seconds.ensures.rows in
          IfOk-weaker c.select_by_value.result _ _ (λ list. same_answers c.args.query.now (pairs_of j firsts found) (pairs_of j firsts seconds) list same)
          c.select_by_value.ensures.ok);
    }
