use Rattle.std.proofs.Common.{◌≡◌, true, Option, IfSome, subst}
use Rattle.vt_value.specs.Values.{Row, is_true}
use Rattle.shard_store.specs.Conditions.{truth_at}
use Rattle.shard_store.specs.Tables.{key_at}
use Rattle.shard_contents.proofs.KeyPositions.{among_one}
use Rattle.shard_contents.proofs.changes_by_key.fixed_keys.Goals as goal

pub returns-in_ok-key_of_values-in-Some : goal.returns-in_ok-key_of_values-in-Some
returns-in_ok-key_of_values-in-Some c =
    let P : Option Row → Type 0 = λ o. IfSome o (λ v. (row : Row) → is_true (truth_at row c.args.condition.now) ≡ true → v ≡ key_at c.args.columns.now row) in
    record {
      ok = λ row h.
          among_one c.in_ok-key_of_values-in-Some.field-0.items c.in-Some.values (key_at c.args.columns.now row) c.in_ok-key_of_values-in-Some.ensures.ok
          (subst P c.in-Some.is c.in_ok-values.ensures.ok row h);
    }
