use Rattle.std.proofs.Common.{◌≡◌, ◌∙◌, ℕ, Option, Some, ap, sym, subst, filter, option_copied}
use Rattle.std.specs.Prelude.{IfOk}
use Rattle.sql_tree.specs.declared.Condition.{Condition}
use Rattle.std.proofs.lemmas.Result.{IfOk-weaker}
use Rattle.sql_eval.specs.Conditions.{is_kept}
use Rattle.shard_store.specs.Slots.{rows_in}
use Rattle.shard_store.specs.Tables.{key_at, begins_with}
use Rattle.shard_store.specs.inner.Chosen.{lies_between}
use Rattle.shard_store.proofs.KeptRows.{filter_alike}
use Rattle.shard_store.proofs.Keyed.{begun_inside}
use Rattle.shard_store.proofs.table.StoredTable.walk_with.Goals as goal

pub returns-in_default : goal.returns-in_default
returns-in_default c =
    record { ok = IfOk-weaker c.rows_with.result _ _ (λ rows is. ap (filter (is_kept (option_copied c.args.condition))) is) c.rows_with.ensures.ok }

pub returns-in_ok-keys-in-Some : goal.returns-in_ok-keys-in-Some
returns-in_ok-keys-in-Some c =
    let t = c.args.self.now in
    let v = c.args.value in
    let keys = c.in_ok-keys-in-Some.keys in
    let k = is_kept (Some c.in-Some.condition.now) in
    record {
      ok = subst (λ (o : Option (Condition ℕ)). IfOk c.rows_inside.result (λ rows. filter (is_kept o) rows ≡ filter (is_kept o) (filter (begins_with t.ordinals v.now) (rows_in t.slots))))
          (sym (ap option_copied c.in-Some.is))
          (IfOk-weaker c.rows_inside.result _ _
          (λ rows is. ap (filter k) is
          ∙ filter_alike k (λ row. lies_between (Some v) keys (key_at t.ordinals row)) (begins_with t.ordinals v.now)
          (λ row kept. begun_inside v keys t.ordinals c.args.others.now row c.requires (c.in_ok-keys-in-Some.ensures.ok row kept)) (rows_in t.slots))
          c.rows_inside.ensures.ok);
    }
