use Rattle.std.proofs.Common.{◌≡◌}
use Rattle.std.specs.List.{AllByRecursion}
use Rattle.std.specs.Vec.Iter.{into_iter_items}
use Rattle.sql_eval.specs.Database.{all_applied}
use Rattle.shard_store.specs.Stores.{changes_in, HasItsKey, HasRoomFor}
use Rattle.shard_store.proofs.Tabled.{Reached}
use Rattle.shard_store.proofs.stored.StoredTables.apply.Given as goal

-- the changes that are left can be done, and lead to where all lead
abbrev pub invariant-loop-change : goal.invariant-loop-change
invariant-loop-change l =
    record {
      reached : Reached l.self.rows (into_iter_items l.change-iterator) (all_applied (changes_in l.fn.changes.items) l.fn.self.rows);
      keys : AllByRecursion (HasItsKey l.self) (into_iter_items l.change-iterator);
      room : HasRoomFor l.self (into_iter_items l.change-iterator);
      ordinals : l.self.ordinals ≡ l.fn.self.ordinals;
    }
