-- How far a target has copied a source, as its last Copy from there tells.
use Rattle.std.specs.Prelude.{◌≡◌, ◌≢◌, ◌⊎◌, ℕ, Bool, true, false, ◌&&◌, ◌==◌, Option, Some, None, if◌then◌else◌}
use Rattle.vt_value.specs.Values.{Row}
use Rattle.vschema.specs.declared.schema.VSchema.{VSchema}
use Rattle.vschema.specs.Ranges.{is_before}
use Rattle.shard_run.specs.declared.ShardRecord.{ShardRecord}
use Rattle.shard_run.specs.Runs.{Run, Opening}
use Rattle.shard_run.specs.Copies.{table_at, has_copied_all}
use Rattle.shard_contents.specs.Legal.{IsTableOf}
use Rattle.shard_contents.specs.Law.{rows_copied}
use Rattle.shard_contents.specs.Progress.{last_row}
use Rattle.shard_contents.specs.declared.target_steps.TargetStep.{TargetStep}
use Rattle.shard_contents.specs.declared.target_steps.TargetStep.TheVariants.{Copied}

-- one table's name is before the other's
abbrev pub is_named_before : VSchema → ℕ → ℕ → Bool
is_named_before schema m n = is_before (table_at schema m).name (table_at schema n).name

-- The last Copy was of the table n. Those of the keyspace before it are wholly copied, and of all others nothing is; of this one all is, or the
-- rows up to the Copy's last.
pub record HasReached (schema : VSchema) (keyspace : ℕ) (whole : ℕ → Bool) (ends : ℕ → Option Row) (n : ℕ) (last : Bool) (row : Option Row) : Type 0 where
  pub table : IsTableOf schema keyspace n
  pub here : whole n ≡ last
  pub end : last ≡ false → ends n ≡ row
  pub earlier : (m : ℕ) → IsTableOf schema keyspace m → is_named_before schema m n ≡ true → whole m ≡ true
  pub among : (m : ℕ) → whole m ≡ true → (m ≡ n) ⊎ (IsTableOf schema keyspace m × (is_named_before schema m n ≡ true))
  pub nothing : (m : ℕ) → m ≢ n → whole m ≡ false → ends m ≡ None

-- What the last Copy from a source tells of which tables are wholly copied, and of the last rows of the others.
pub data Tells (schema : VSchema) (keyspace source : ℕ) (whole : ℕ → Bool) (ends : ℕ → Option Row) : Option TargetStep → Type 0 where
  none : ((n : ℕ) → whole n ≡ false) → ((n : ℕ) → ends n ≡ None) → Tells schema keyspace source whole ends None
  copied : (n place : ℕ) (last : Bool) (row : Option Row) → HasReached schema keyspace whole ends n last row
      → Tells schema keyspace source whole ends (Some (Copied source n place last row))

abbrev pub IsLastCopy : Opening → Run → ShardRecord → ℕ → Option TargetStep → Type 0
IsLastCopy o run target source step =
    Tells o.schema target.place.keyspace source (has_copied_all run target.slot source) (λ n. last_row (rows_copied run target.slot source n)) step

-- by the last Copy, which was of this table, another is wholly copied, or this one
abbrev pub is_whole : VSchema → ℕ → ℕ → Bool → ℕ → Bool
is_whole schema keyspace reached last n =
    if n == reached then last else (((table_at schema n).keyspace == keyspace) && is_named_before schema n reached)
