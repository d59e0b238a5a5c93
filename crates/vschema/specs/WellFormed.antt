-- What every VSchema keeps.
use Rattle.std.specs.Prelude.{Bool}
use Rattle.vschema.specs.declared.schema.VSchema.{VSchema}
pub use Rattle.vschema_json.specs.Twice.{has_number_twice}
pub use Rattle.vschema.specs.Formed.{is_type, takes_type, is_needed, fits_vindex, is_vindex_right, is_sharded_at, is_in_keyspace, is_table, is_formed}

-- true of each: its type says so
abbrev pub is_vschema : VSchema → Bool
is_vschema s = is_formed s.keyspaces s.tables
