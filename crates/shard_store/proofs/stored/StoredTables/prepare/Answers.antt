use Rattle.std.proofs.Common.{◌<◌, length, sym, subst}
use Rattle.std.specs.List.{AllByRecursion}
use Rattle.sql_eval.specs.Database.{changed_table}
use Rattle.shard_store.specs.declared.key.KeyedChange.{KeyedChange}
use Rattle.shard_store.specs.Stores.{change_in, HasReadySlot, HasRoomFor}
use Rattle.shard_store.proofs.Splits.{keyed_there}
use Rattle.shard_store.proofs.Tabled.{keys_ready}
use Rattle.shard_store.proofs.stored.StoredTables.prepare.Goals as goal

pub reserve_all-requires : goal.reserve_all-requires
reserve_all-requires c =
    subst (AllByRecursion (λ (x : KeyedChange). changed_table (change_in x) < length c.args.self.now.rows)) (sym c.as_slice.ensures.value)
    (keyed_there (length c.args.self.now.rows) c.args.changes.now c.in_ok-keyed.keyed.items c.in_ok-keyed.ensures.changes c.requires)

pub returns-in-Ok-clause-ready : goal.returns-in-Ok-clause-ready
returns-in-Ok-clause-ready c = record {
  same = c.in_ok-keyed.ensures.changes.same;
  keys = keys_ready c.args.self.now c.reserve_all.new.self c.in-Ok.ensures.ordinals c.in_ok-keyed.keyed.items c.in_ok-keyed.ensures.keys
      (subst (AllByRecursion (HasReadySlot c.reserve_all.new.self)) c.as_slice.ensures.value c.in-Ok.ensures.ready);
  room = subst (HasRoomFor c.reserve_all.new.self) c.as_slice.ensures.value c.in-Ok.ensures.ok;
}
