use Rattle.std.proofs.Common.{◌≡◌, List, [], false, sym, subst, refl}
use Rattle.std.specs.Prelude.{IfOk}
use Rattle.std.specs.List.{list_any}
use Rattle.vt_value.specs.Values.{Row}
use Rattle.sql_eval.specs.Schema.{key_of}
use Rattle.sql_eval.specs.Database.{same_row}
use Rattle.shard_store.proofs.KeptRows.{none_any}
use Rattle.shard_store.proofs.stored.StoredTables.has_any_key.Goals as goal

pub returns-in-Some : goal.returns-in-Some
returns-in-Some c = record {
  ok = (let t = c.args.table.now in
      subst (λ (rows : List Row). IfOk c.has_any_key.result (λ has. has ≡ list_any (λ n. list_any (λ r. same_row (key_of t n) (key_of t r)) rows) c.args.new.now))
      (sym c.in-Some.ensures) c.has_any_key.ensures.ok);
}

pub returns-in-None : goal.returns-in-None
returns-in-None c = record {
  ok = (let t = c.args.table.now in
      subst (λ (rows : List Row). false ≡ list_any (λ n. list_any (λ r. same_row (key_of t n) (key_of t r)) rows) c.args.new.now) (sym c.in-None.ensures)
      (sym (none_any (λ n. list_any (λ r. same_row (key_of t n) (key_of t r)) []) (λ n. refl) c.args.new.now)));
}
