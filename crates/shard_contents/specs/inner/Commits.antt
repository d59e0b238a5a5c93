-- Room for a write by counts, and why its memory is not made.
use Rattle.std.specs.Prelude.{◌≡◌, ℕ, ◌+◌, ◌^◌, Bool, false, ◌&&◌, nat_lt, nat_le, List, length, Ok, Err}
use Rattle.vt_value.specs.declared.refusal.Refusal.{Refusal}
use Rattle.vt_value.specs.declared.refusal.Refusal.TheVariants.{OutOfMemory, DuplicateKey, ShardFull}
use Rattle.vschema.specs.declared.schema.VSchema.{VSchema}
use Rattle.vschema.specs.declared.changes.Write.{Write}
use Rattle.vschema.specs.declared.changes.RowChange.{RowChange}
use Rattle.vschema.specs.Database.{Database}
use Rattle.shard_store.specs.Writes.{changes_of}
use Rattle.shard_law.specs.Openings.{row_count}
use Rattle.shard_law.specs.declared.limits.Limits.{Limits}
use Rattle.shard_contents.specs.Commits.{inserted_rows}

-- the limits by counts alone: entries of all kinds, stored entries and rows before the write, of which only an INSERT adds rows
abbrev pub has_room : Limits → ℕ → ℕ → ℕ → Write → Bool
has_room limits entries stored rows w =
    nat_lt entries (2 ^ 40) && nat_lt stored limits.stored && nat_le (rows + length (inserted_rows w)) limits.rows

-- why the memory of a commit is not made, over the rows that the shard holds
pub data IsUnprepared (schema : VSchema) (limits : Limits) (entries stored : ℕ) (db : Database) (w : Write) : Refusal → Type 0 where
  no_memory : IsUnprepared schema limits entries stored db w OutOfMemory
  duplicate : changes_of schema w db ≡ Err DuplicateKey → IsUnprepared schema limits entries stored db w DuplicateKey
  full : (changes : List RowChange) → changes_of schema w db ≡ Ok changes → has_room limits entries stored (row_count db) w ≡ false
      → IsUnprepared schema limits entries stored db w ShardFull
