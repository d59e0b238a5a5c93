-- A VSchema with a sharded keyspace `shop` (tables t and b) and an unsharded one `base` (table u).
use Rattle.std.proofs.Common.{ℕ, Bool, List, [], ◌∷◌, Some, None, true, false, refl}
use Rattle.std.specs.Prelude.{codes}
use Rattle.vschema_json.specs.AnyVindex.TheVariants.{ReverseBits, BinaryMd5}
use Rattle.vschema_json.specs.declared.column.Column.{Column}
use Rattle.vschema_json.specs.declared.column.ColumnType.{ColumnType}
use Rattle.vschema_json.specs.declared.column.ColumnType.TheVariants.{BigInt, BigIntUnsigned, VarBinary}
use Rattle.vschema.specs.declared.schema.Table.{Table}
use Rattle.vschema.specs.declared.schema.VSchema.{VSchema}

abbrev column : List ℕ → ColumnType → Bool → Column
column name kind nullable = record { name = name; kind = kind; nullable = nullable }

abbrev pub t : Table
t = record {
  name = codes "t";
  keyspace = 0;
  columns = column (codes "id") BigIntUnsigned false ∷ column (codes "c") BigIntUnsigned true ∷ [];
  primary_key = 0 ∷ [];
  vindex = Some (record { column = 0; vindex = ReverseBits; number = 1 });
}

abbrev pub b : Table
b = record {
  name = codes "b";
  keyspace = 0;
  columns = column (codes "k") (VarBinary 255) false ∷ column (codes "v") (VarBinary 255) true ∷ [];
  primary_key = 0 ∷ [];
  vindex = Some (record { column = 0; vindex = BinaryMd5; number = 0 });
}

abbrev pub u : Table
u = record {
  name = codes "u";
  keyspace = 1;
  columns = column (codes "n") BigInt false ∷ column (codes "name") (VarBinary 32) true ∷ [];
  primary_key = 0 ∷ [];
  vindex = None;
}

abbrev pub schema : VSchema
schema = record {
  keyspaces = record { name = codes "shop"; sharded = true } ∷ record { name = codes "base"; sharded = false } ∷ [];
  tables = t ∷ b ∷ u ∷ [];
  formed = refl;
}
