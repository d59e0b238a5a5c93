use Rattle.std.proofs.Common.{rules, ◌≡◌, ℕ, true, None, List, subst}
use Rattle.std.specs.Prelude.{nat_lt}
use Rattle.std.specs.List.{list_all}
use Rattle.std.proofs.lemmas.Result.{IfOk-weaker}
use Rattle.vt_value.specs.Values.{Row}
use Rattle.sql_eval.specs.Sources.{paired}
use Rattle.sql_eval.specs.Conditions.{is_kept}
use Rattle.key_intervals.specs.Intervals.{in_interval}
use Rattle.shard_store.specs.Slots.{rows_in}
use Rattle.shard_store.specs.Tables.{key_at}
use Rattle.shard_store.specs.Chosen.{slots_chosen}
use Rattle.shard_store.specs.inner.Chosen.{lies_between}
use Rattle.shard_store.proofs.Keyed.{lies_inside}
use Rattle.shard_store.proofs.KeptPairs.{kept_of_chosen, key_of_first}
use Rattle.shard_store.proofs.table.StoredTable.firsts_between.Goals as goal

pub returns : goal.returns
returns c =
    let k = is_kept c.args.query.now.filter in
    let j = c.args.join in
    let t = c.args.self.now in
    let keys = c.in_ok-keys.keys in
    let own : list_all (λ n. nat_lt n j.width) t.ordinals ≡ true = search rules in
    record {
      ok = IfOk-weaker c.chosen_inside.result _ _
          (λ rows is others seconds.
          kept_of_chosen k (λ row. lies_between None keys (key_at t.ordinals row)) j
          (λ a b pair kept.
          lies_inside keys (key_at t.ordinals a) (subst (λ (l : Row). in_interval keys l ≡ true) (key_of_first j a b t.ordinals own)
          (subst (λ (l : List ℕ). in_interval keys (key_at l (paired j a b)) ≡ true) c.key_columns-2.ensures (c.in_ok-keys.ensures (paired j a b) kept))))
          (slots_chosen rows) (rows_in t.slots) others seconds is)
          c.chosen_inside.ensures.ok;
    }
