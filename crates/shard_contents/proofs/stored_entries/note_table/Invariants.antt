use Rattle.std.proofs.Common.{◌≡◌, ℕ, ◌+◌, ◌-◌}
use Rattle.std.specs.Prelude.{vec_capacity}
use Rattle.shard_contents.specs.inner.LastChanges.{last_change}
use Rattle.shard_contents.proofs.stored_entries.note_table.Given as goal

abbrev pub invariant-loop-last_changed : goal.invariant-loop-last_changed
invariant-loop-last_changed l =
    record {
      same : (n : ℕ) → last_change l.last_changed.items n ≡ last_change l.fn.last_changed.items n;
      capacity : vec_capacity l.last_changed ≡ vec_capacity l.fn.last_changed;
    }

abbrev pub decreases-loop-last_changed : goal.decreases-loop-last_changed
decreases-loop-last_changed l = l.ordinal + 1 - l.last_changed.len
