use Rattle.std.proofs.Common.{◌≡◌, ◌<◌, take}
use Rattle.std.specs.Prelude.{vec_capacity}
use Rattle.std.specs.List.{AllByRecursion}
use Rattle.vschema.specs.Database.{changed_table}
use Rattle.shard_contents.proofs.stored_entries.reserve_tables.Given as goal

-- there is memory for the tables of the changes so far
abbrev pub invariant-loop-change : goal.invariant-loop-change
invariant-loop-change l =
    record {
      same : l.last_changed.items ≡ l.fn.last_changed.items;
      reached : AllByRecursion (λ c. changed_table c < vec_capacity l.last_changed) (take l.change-index l.changes);
    }
