-- The last row of a table that a target has, as its steps tell it, and the first table by name.
use Rattle.std.specs.Prelude.{ℕ, ◌&&◌, ◌==◌, Option, Some, None, if◌then◌else◌}
use Rattle.vt_value.specs.Values.{Row}
use Rattle.vschema.specs.declared.schema.VSchema.{VSchema}
use Rattle.vschema.specs.Ranges.{is_before}
use Rattle.shard_law.specs.Copies.{table_at}
use Rattle.shard_contents.specs.declared.target_steps.TargetStep.{TargetStep}
use Rattle.shard_contents.specs.declared.target_steps.TargetStep.TheVariants.{Followed, Copied}

-- the last row that the step copied of the table from the source
abbrev pub row_of : ℕ → ℕ → TargetStep → Option Row
row_of source table (Followed from place) = None
row_of source table (Copied from of place last row) = if (from == source) && (of == table) then row else None

-- the first by name of two tables, if the other was found
abbrev pub first_named : VSchema → ℕ → Option ℕ → ℕ
first_named schema n None = n
first_named schema n (Some m) = if is_before (table_at schema n).name (table_at schema m).name then n else m
