use Rattle.std.proofs.Common.{◌≡◌, ◌≤◌, length, take}
use Rattle.std.specs.List.{AllByRecursion}
use Rattle.sql_eval.specs.Database.{changed_table}
use Rattle.shard_store.specs.Stores.{room_of, change_in, HasReadySlot}
use Rattle.shard_store.proofs.stored.StoredTables.reserve_all.Given as goal

-- the tables of the changes so far have room for as many rows as there are changes, and their keys have slots that are ready
abbrev pub invariant-loop-change : goal.invariant-loop-change
invariant-loop-change l =
    record {
      rows : l.self.rows ≡ l.fn.self.rows;
      ordinals : l.self.ordinals ≡ l.fn.self.ordinals;
      ready : AllByRecursion (HasReadySlot l.self) (take l.change-index l.keyed);
      room : AllByRecursion (λ c. length l.keyed ≤ room_of l.self (changed_table (change_in c))) (take l.change-index l.keyed);
    }
