-- The numbers of a VSchema's faults. Want of memory has none.
use Rattle.std.specs.Prelude.{ℕ, Option, Some, None}
use Rattle.vschema_json.specs.declared.fault.SchemaFault.{SchemaFault}
use Rattle.vschema_json.specs.declared.fault.SchemaFault.TheVariants.{OutOfMemory, NotJson, IllFormed, UnknownVindex, MissingColumn, WrongKeyType, NullableKey, KeyWithoutVindex, NamedTwice, AboveLimit}

abbrev pub fault_number : SchemaFault → Option ℕ
fault_number OutOfMemory = None
fault_number NotJson = Some 1
fault_number IllFormed = Some 2
fault_number UnknownVindex = Some 3
fault_number MissingColumn = Some 4
fault_number WrongKeyType = Some 5
fault_number NullableKey = Some 6
fault_number KeyWithoutVindex = Some 7
fault_number NamedTwice = Some 8
fault_number AboveLimit = Some 9
