use Rattle.std.proofs.Common.{take}
use Rattle.std.specs.List.{AllByRecursion}
use Rattle.shard_store.specs.Stores.{changes_in, IsByItsKey}
use Rattle.shard_store.specs.inner.Stores.{DoTheSame}
use Rattle.shard_store.proofs.stored.StoredTables.keyed_changes.Given as goal

abbrev pub invariant-loop-change : goal.invariant-loop-change
invariant-loop-change l =
    record {
      keys : AllByRecursion (IsByItsKey l.fn.self) l.keyed.items;
      changes : DoTheSame (changes_in l.keyed.items) (take l.change-index l.changes);
    }
