-- The VSchema that a text means: if no fault applies, what it declares, with columns by their ordinals.
use Rattle.std.specs.Prelude.{ℕ, ◌+◌, List, [], ◌∷◌, ◌++◌, map, slice_get, Option, Some, None, option_map, option_and_then, unwrap_or, bytes_eq, Result, Ok, Err}
use Rattle.serde_json.specs.Data.{Data}
use Rattle.serde_json.specs.Read as json
use Rattle.vschema.specs.declared.schema.ColumnVindex.{ColumnVindex}
use Rattle.vschema.specs.declared.schema.Keyspace.{Keyspace}
use Rattle.vschema.specs.declared.schema.Table.{Table}
use Rattle.vschema.specs.declared.schema.VSchema.{VSchema}
use Rattle.vschema_json.specs.declared.document.DeclaredKey.{DeclaredKey}
use Rattle.vschema_json.specs.declared.document.DeclaredTable.{DeclaredTable}
use Rattle.vschema_json.specs.declared.document.DeclaredKeyspace.{DeclaredKeyspace}
use Rattle.vschema_json.specs.declared.fault.SchemaFault.{SchemaFault}
use Rattle.vschema_json.specs.declared.fault.SchemaFault.TheVariants.{NotJson, IllFormed}
use Rattle.vschema.specs.Resolved.{Name}
use Rattle.vschema_json.specs.Documents.{document}
use Rattle.vschema_json.specs.Faults.{keys, vindexes, ordinal_of, vindex_of, first_fault}
use Rattle.vschema_json.specs.Places.{ordinal_from}

abbrev pub ordinal_in : DeclaredTable → Name → ℕ
ordinal_in t name = unwrap_or (ordinal_of t name) 0

-- which of the keyspace's vindexes has this name
abbrev pub vindex_number : DeclaredKeyspace → Name → ℕ
vindex_number k name = unwrap_or (ordinal_from (λ v. bytes_eq v.name name) 0 (vindexes k)) 0

abbrev pub vindex_on : DeclaredKeyspace → DeclaredTable → DeclaredKey → Option ColumnVindex
vindex_on k t e = option_map (λ v. record { column = ordinal_in t e.column; vindex = v; number = vindex_number k e.vindex }) (vindex_of k e.vindex)

abbrev pub meant_table : DeclaredKeyspace → ℕ → DeclaredTable → Table
meant_table k n t =
    record { name = t.name; keyspace = n; columns = t.columns; primary_key = map (ordinal_in t) t.primary_key; vindex = option_and_then (vindex_on k t) (slice_get (keys t) 0) }

-- the tables of keyspaces whose ordinals begin at a number
abbrev pub meant_tables : ℕ → List DeclaredKeyspace → List Table
meant_tables n [] = []
meant_tables n (k ∷ ks) = map (meant_table k n) k.tables ++ meant_tables (n + 1) ks

abbrev pub meant_keyspace : DeclaredKeyspace → Keyspace
meant_keyspace k = record { name = k.name; sharded = k.sharded }

-- what a VSchema has
pub record SchemaContents : Type 0 where
  pub keyspaces : List Keyspace
  pub tables : List Table

abbrev pub contents : VSchema → SchemaContents
contents s = record { keyspaces = s.keyspaces; tables = s.tables }

abbrev pub meant : List DeclaredKeyspace → SchemaContents
meant ks = record { keyspaces = map meant_keyspace ks; tables = meant_tables 0 ks }

-- the whole reading

abbrev pub unless_fault : Option SchemaFault → SchemaContents → Result SchemaContents SchemaFault
unless_fault None c = Ok c
unless_fault (Some fault) c = Err fault

abbrev pub schema_declared : Option (List DeclaredKeyspace) → Result SchemaContents SchemaFault
schema_declared None = Err IllFormed
schema_declared (Some ks) = unless_fault (first_fault ks) (meant ks)

abbrev pub schema_of : Option Data → Result SchemaContents SchemaFault
schema_of None = Err NotJson
schema_of (Some d) = schema_declared (document d)

-- what the VSchema has that a text is, or its fault with the least number
abbrev pub schema_read : List ℕ → Result SchemaContents SchemaFault
schema_read text = schema_of (json.read text)
