-- The opening over a VSchema and key ranges, without rows.
use Rattle.std.specs.Prelude.{ℕ, ◌+◌, ◌≤◌, not, List, [], ◌∷◌, ◌++◌, length, map, Option, Some, None, IfSome}
use Rattle.std.specs.List.{AllByRecursion}
use Rattle.vschema.specs.KeyRange.{KeyRange}
use Rattle.vschema.specs.Ranges.{Cover}
use Rattle.vschema.specs.Names.{IsNamed}
use Rattle.vschema.specs.declared.schema.VSchema.{VSchema}
use Rattle.vschema.specs.Schema.{ordinal_from}
use Rattle.vschema.specs.Database.{Database}
use Rattle.shard_run.specs.declared.ShardRecord.{ShardRecord}
use Rattle.shard_run.specs.Runs.{Opening}

-- the keyspace that isn't sharded, and the one that is; a VSchema has at most one of each
abbrev pub unsharded_keyspace : VSchema → Option ℕ
unsharded_keyspace schema = ordinal_from (λ k. not k.sharded) 0 schema.keyspaces

abbrev pub sharded_keyspace : VSchema → Option ℕ
sharded_keyspace schema = ordinal_from (λ k. k.sharded) 0 schema.keyspaces

-- the range of all ids, `-`
abbrev pub full_range : KeyRange
full_range = record { begin = []; end = None }

abbrev pub shard_on : ℕ → ℕ → KeyRange → ShardRecord
shard_on slot keyspace range = record { slot = slot; place = record { keyspace = keyspace; range = range }; sources = [] }

-- one shard for each range, on the slots from a number on
abbrev pub shards_from : ℕ → ℕ → List KeyRange → List ShardRecord
shards_from slot keyspace [] = []
shards_from slot keyspace (range ∷ ranges) = shard_on slot keyspace range ∷ shards_from (slot + 1) keyspace ranges

abbrev pub keyspace_shards : ℕ → Option ℕ → List KeyRange → List ShardRecord
keyspace_shards slot None ranges = []
keyspace_shards slot (Some keyspace) ranges = shards_from slot keyspace ranges

abbrev pub unsharded_shards : VSchema → List ShardRecord
unsharded_shards schema = keyspace_shards 0 (unsharded_keyspace schema) (full_range ∷ [])

-- one shard for the unsharded keyspace, and after it one for each range of the sharded one
abbrev pub empty_shards : VSchema → List KeyRange → List ShardRecord
empty_shards schema ranges =
    unsharded_shards schema ++ keyspace_shards (length (unsharded_shards schema)) (sharded_keyspace schema) ranges

-- an empty list of rows for each table
abbrev pub no_rows : VSchema → Database
no_rows schema = map (λ t. []) schema.tables

abbrev pub opening_of : VSchema → List KeyRange → Opening
opening_of schema ranges =
    record { schema = schema; shards = map (λ s. (s, no_rows schema)) (empty_shards schema ranges) }

-- If a keyspace is sharded, the ranges have names and hold each keyspace id once. The shards fit into 64 slots.
pub record FitRanges (schema : VSchema) (ranges : List KeyRange) : Type 0 where
  pub named : IfSome (sharded_keyspace schema) (λ k. AllByRecursion IsNamed ranges)
  pub cover : IfSome (sharded_keyspace schema) (λ k. Cover ranges)
  pub slots : length (empty_shards schema ranges) ≤ 64
