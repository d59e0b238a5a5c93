use Rattle.std.proofs.Common.{◌≤◌, ◌∙◌, ◌^◌, List, length, refl, sym, subst}
use Rattle.std.specs.Prelude.{IfOk}
use Rattle.std.proofs.lemmas.Result.{IfOk-weaker}
use Rattle.vt_value.specs.Values.{Row}
use Rattle.sql_eval.specs.Groups.{CanBeSummed}
use Rattle.sql_eval.specs.Queries.{IsAnswer}
use Rattle.key_intervals.specs.Conjuncts.{passes}
use Rattle.shard_store.proofs.KeptPairs.{all_pass, answer_of_firsts}
use Rattle.shard_store.proofs.joined.select_by_value.Goals as goal

pub select_groups-requires : goal.select_groups-requires
select_groups-requires g c κs =
    let all = all_pass c.args.join c.new.result.items (g.S.RowSource.to_come c.args.firsts) c.args.seconds.now.rows _ c.new-pairs.ensures c.new.ensures.items in (
      (refl, tt),
      λ few. subst CanBeSummed (sym all)
          (c.requires.summed (sym c.is_aggregated.ensures ∙ c.if-is_aggregated.true) (subst (λ (l : List Row). length l ≤ 2 ^ 60) all few)),
    )

pub returns-then-is_aggregated : goal.returns-then-is_aggregated
returns-then-is_aggregated g c =
    record {
      ok = subst (λ (l : List Row). IfOk c.select_groups.result (IsAnswer c.args.query.now l))
          (all_pass c.args.join c.new.result.items (g.S.RowSource.to_come c.args.firsts) c.args.seconds.now.rows _ c.new-pairs.ensures c.new.ensures.items)
          c.select_groups.ensures.ok;
    }

pub returns : goal.returns
returns g c =
    record {
      ok = IfOk-weaker c.select_pairs.result _ _
          (λ list answer. answer_of_firsts c.args.query.now c.args.join (passes c.in_ok-own.own.items) (g.S.RowSource.to_come c.args.firsts) c.args.seconds.now.rows _ list
          c.new-2.ensures (λ a b kept. c.in_ok-own.ensures.ok a b kept) answer)
          c.select_pairs.ensures.ok;
    }
