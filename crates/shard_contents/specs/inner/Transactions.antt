-- Room for the changes of a transaction by counts, and why its memory is not made.
use Rattle.std.specs.Prelude.{◌≡◌, ℕ, ◌+◌, ◌^◌, ◌&&◌, nat_lt, nat_le, count_by, Bool, false, List}
use Rattle.vt_value.specs.declared.refusal.Refusal.{Refusal}
use Rattle.vt_value.specs.declared.refusal.Refusal.TheVariants.{OutOfMemory, ShardFull}
use Rattle.vschema.specs.declared.changes.RowChange.{RowChange}
use Rattle.shard_law.specs.declared.limits.Limits.{Limits}
use Rattle.shard_contents.specs.Commits.{is_added, is_removed}

-- the limits by counts alone: entries of all kinds, stored entries, and rows before the changes
abbrev pub has_room_for : Limits → ℕ → ℕ → ℕ → List RowChange → Bool
has_room_for limits entries stored rows changes =
    nat_lt entries (2 ^ 40) && nat_lt stored limits.stored
    && nat_le (rows + count_by is_added changes) (limits.rows + count_by is_removed changes)

-- why the memory of a commit is not made
pub data IsAllUnprepared (limits : Limits) (entries stored rows : ℕ) (changes : List RowChange) : Refusal → Type 0 where
  no_memory : IsAllUnprepared limits entries stored rows changes OutOfMemory
  full : has_room_for limits entries stored rows changes ≡ false → IsAllUnprepared limits entries stored rows changes ShardFull
