-- The types that a column may have, and those that a vindex takes.
use Rattle.std.specs.Prelude.{Bool, true, false, ◌&&◌, nat_le}
use Rattle.vindex.specs.declared.AnyVindex.{AnyVindex}
use Rattle.vindex.specs.declared.AnyVindex.TheVariants.{Numeric, ReverseBits, Binary, BinaryMd5}
use Rattle.vschema_json.specs.declared.column.ColumnType.{ColumnType}
use Rattle.vschema_json.specs.declared.column.ColumnType.TheVariants.{BigInt, BigIntUnsigned, VarBinary}

-- a column of texts takes up to a number of bytes from 1 to 255
abbrev pub is_type : ColumnType → Bool
is_type BigInt = true
is_type BigIntUnsigned = true
is_type (VarBinary n) = nat_le 1 n && nat_le n 255

-- the columns that a vindex takes
abbrev pub takes_type : AnyVindex → ColumnType → Bool
takes_type Numeric BigIntUnsigned = true
takes_type ReverseBits BigIntUnsigned = true
takes_type Binary (VarBinary n) = true
takes_type BinaryMd5 (VarBinary n) = true
takes_type _ _ = false
