-- What is asked of an opening: its shards and their first rows.
use Rattle.std.specs.Prelude.{◌≡◌, ℕ, ◌<◌, ◌≤◌, ◌^◌, ◌==◌, IsTrue, List, [], length, map, filter, sum_by, AllPairs, ◌≢◌}
use Rattle.std.specs.List.{AllByRecursion}
use Rattle.vschema.specs.Ranges.{Cover}
use Rattle.vschema.specs.Names.{IsNamed}
use Rattle.vschema.specs.declared.schema.VSchema.{VSchema}
use Rattle.vschema.specs.Database.{Database, restrict}
use Rattle.vschema.specs.Storable.{is_database}
use Rattle.shard_run.specs.declared.ShardRecord.{ShardRecord}
use Rattle.shard_run.specs.Runs.{Opening}

abbrev pub row_count : Database → ℕ
row_count db = sum_by length db

abbrev pub shards_in : Opening → ℕ → List ShardRecord
shards_in o keyspace = filter (λ s. s.place.keyspace == keyspace) (map (λ p. p.0) o.shards)

-- A shard's first rows are rows that its tables may hold and that lie in its place, no two of a table with one primary
-- key, and at most 2 ^ 20. Its keyspace is one of the VSchema's, its range has a name, and it has no sources.
pub record OpensWith (schema : VSchema) (s : ShardRecord) (db : Database) : Type 0 where
  pub slot : s.slot < 64
  pub keyspace : s.place.keyspace < length schema.keyspaces
  pub range : IsNamed s.place.range
  pub no_sources : s.sources ≡ []
  pub rows : IsTrue (is_database schema.tables db)
  pub inside : restrict schema s.place db ≡ db
  pub room : row_count db ≤ 2 ^ 20

-- the shards have slots of their own, and those of a keyspace hold each keyspace id once
pub record IsOpening (o : Opening) : Type 0 where
  pub each : AllByRecursion (λ p. OpensWith o.schema p.0 p.1) o.shards
  pub slots : AllPairs (λ a b. a.slot ≢ b.slot) (map (λ p. p.0) o.shards)
  pub ranges : (keyspace : ℕ) → keyspace < length o.schema.keyspaces
      → Cover (map (λ s. s.place.range) (shards_in o keyspace))
