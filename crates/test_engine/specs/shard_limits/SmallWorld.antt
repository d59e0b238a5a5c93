-- A small world, over which the tests run: the unsharded table t (id, c) without rows, on one shard that holds at most two rows and stores at
-- most four entries.
use Rattle.std.specs.Prelude.{List, [], ◌∷◌, codes, true, false, None}
use Rattle.std.proofs.Common.{refl}
use Rattle.vschema_json.specs.declared.column.Column.{Column}
use Rattle.vschema_json.specs.declared.column.ColumnType.TheVariants.{BigIntUnsigned}
use Rattle.vschema.specs.declared.schema.VSchema.{VSchema}
use Rattle.shard_run.specs.declared.ShardRecord.{ShardRecord}
use Rattle.shard_run.specs.Runs.{Opening}
use Rattle.shard_contents.specs.Limits.{Limits}

abbrev pub small_columns : List Column
small_columns = record { name = codes "id"; kind = BigIntUnsigned; nullable = false } ∷ record { name = codes "c"; kind = BigIntUnsigned; nullable = true } ∷ []

abbrev pub small_schema : VSchema
small_schema = record {
  keyspaces = record { name = codes "shop"; sharded = false } ∷ [];
  tables = record {
    name = codes "t";
    keyspace = 0;
    columns = small_columns;
    primary_key = 0 ∷ [];
    vindex = None;
  }
      ∷ [];
  formed = refl;
}

abbrev pub small_shard : ShardRecord
small_shard = record { slot = 0; place = record { keyspace = 0; range = record { begin = []; end = None } }; sources = [] }

abbrev pub small_opening : Opening
small_opening = record { schema = small_schema; shards = (small_shard, [] ∷ []) ∷ [] }

abbrev pub small_limits : Limits
small_limits = record { rows = 2; stored = 4 }
