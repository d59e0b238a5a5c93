use Rattle.std.proofs.Common.{◌≡◌, ℕ, take, if◌then◌else◌}
use Rattle.std.specs.Prelude.{vec_capacity}
use Rattle.shard_contents.specs.inner.KeptConflicts.{keeps_table}
use Rattle.shard_contents.specs.inner.LastChanges.{last_change}
use Rattle.shard_contents.proofs.stored_entries.note.Given as goal

-- the tables of the changes so far are noted
abbrev pub invariant-loop-change : goal.invariant-loop-change
invariant-loop-change l =
    record {
      capacity : vec_capacity l.last_changed ≡ vec_capacity l.fn.last_changed;
      noted : (n : ℕ) → last_change l.last_changed.items n
          ≡ (if keeps_table n (take l.change-index l.changes) then l.count else last_change l.fn.last_changed.items n);
    }
