use Rattle.std.proofs.Common.{◌≡◌, sym, false, ◌∙◌}
use Rattle.std.specs.Prelude.{slice_index}
use Rattle.std.proofs.lemmas.Bool.{false≢true}
use Rattle.std.proofs.lemmas.Result.{IfOk-weaker}
use Rattle.vt_value.specs.Values.{value_at}
use Rattle.sql_eval.specs.Checks.{is_aggregated}
use Rattle.sql_eval.specs.Conditions.{is_kept}
use Rattle.key_intervals.proofs.KeyLemmas.{some_of}
use Rattle.shard_store.specs.Slots.{rows_in}
use Rattle.key_intervals.specs.Listed.{fits}
use Rattle.shard_store.specs.Chosen.{slots_chosen}
use Rattle.shard_store.proofs.KeptPairs.{kept_of_chosen}
use Rattle.shard_store.proofs.table.StoredTable.firsts.Goals as goal

pub returns-in-Some-clause-all : goal.returns-in-Some-clause-all
returns-in-Some-clause-all c =
    let plain : is_aggregated c.args.query.now ≡ false = sym c.is_aggregated.ensures ∙ c.if-is_aggregated.false in
    IfOk-weaker c.chosen_of.result _ _ (λ rows is aggregated. absurd (false≢true (sym plain ∙ aggregated))) c.chosen_of.ensures.ok

pub returns-in-Some-clause-kept : goal.returns-in-Some-clause-kept
returns-in-Some-clause-kept c =
    let k = is_kept c.args.query.now.filter in
    let j = c.args.join in
    let t = c.args.self.now in
    IfOk-weaker c.chosen_of.result _ _
    (λ rows is others seconds.
    kept_of_chosen k (λ row. fits c.in-Some.values (value_at row (slice_index t.ordinals 0))) j (some_of _ c.in-Some.is c.first_pair_values.ensures.values)
    (slots_chosen rows) (rows_in t.slots) others seconds is)
    c.chosen_of.ensures.ok

pub returns-in-None-clause-all : goal.returns-in-None-clause-all
returns-in-None-clause-all c =
    let plain : is_aggregated c.args.query.now ≡ false = sym c.is_aggregated.ensures ∙ c.if-is_aggregated.false in
    IfOk-weaker c.firsts_between.result _ _ (λ rows is aggregated. absurd (false≢true (sym plain ∙ aggregated))) c.firsts_between.ensures.ok
