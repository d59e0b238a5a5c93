-- What a JSON value declares: the one format of a VSchema, with columns and vindexes by their names. There is none if a
-- member is unknown, missing, of the wrong kind or ill-formed.
use Rattle.std.specs.Prelude.{ℕ, Bool, false, not, ◌-◌, ◌==◌, ◌&&◌, nat_le, List, [], ◌∷◌, length, take, drop, codes, bytes_eq, Option, Some, None, option_map, option_and_then, unwrap_or, if◌then◌else◌}
use Rattle.std.specs.List.{list_all}
use Rattle.serde_json.specs.Data.{Data}
use Rattle.serde_json.specs.Find.{as_bool, as_str}
use Rattle.sql_tree.specs.Lexemes.{is_digit, is_word, digits_onto}
use Rattle.vindex.specs.declared.AnyVindex.{AnyVindex}
use Rattle.vindex.specs.declared.AnyVindex.TheVariants.{Numeric, ReverseBits, Binary, BinaryMd5}
use Rattle.vschema_json.specs.declared.column.Column.{Column}
use Rattle.vschema_json.specs.declared.column.ColumnType.{ColumnType}
use Rattle.vschema_json.specs.declared.column.ColumnType.TheVariants.{BigInt, BigIntUnsigned, VarBinary}
use Rattle.vschema_json.specs.declared.document.DeclaredVindex.{DeclaredVindex}
use Rattle.vschema_json.specs.declared.document.DeclaredKey.{DeclaredKey}
use Rattle.vschema_json.specs.declared.document.DeclaredTable.{DeclaredTable}
use Rattle.vschema_json.specs.declared.document.DeclaredKeyspace.{DeclaredKeyspace}
use Rattle.sql_tree.specs.Literals.{Name}
use Rattle.vschema_json.specs.Json.{array_of, object_of, has_only, needed_member, optional}

abbrev pub if_word : Name → Option Name
if_word name = if is_word name then Some name else None

-- a text that has the shape of a word
abbrev pub word : Data → Option Name
word d = option_and_then if_word (as_str d)

-- what comes after a front, and before an end
abbrev pub rest_after : List ℕ → List ℕ → Option (List ℕ)
rest_after front text = if bytes_eq (take (length front) text) front then Some (drop (length front) text) else None

abbrev pub before : List ℕ → List ℕ → Option (List ℕ)
before end text =
    if bytes_eq (drop (length text - length end) text) end then Some (take (length text - length end) text) else None

abbrev pub begins_above_zero : List ℕ → Bool
begins_above_zero [] = false
begins_above_zero (digit ∷ digits) = not (digit == 0x30)

-- a number from 1 to 255 in decimal digits without leading zeros
abbrev pub column_length : List ℕ → Option ℕ
column_length digits =
    if begins_above_zero digits && list_all is_digit digits && nat_le (digits_onto 0 digits) 255 then Some (digits_onto 0 digits) else None

abbrev pub varbinary : List ℕ → Option ColumnType
varbinary text = option_map VarBinary (option_and_then column_length (option_and_then (before (codes ")")) (rest_after (codes "VARBINARY(") text)))

-- BIGINT, BIGINT UNSIGNED or VARBINARY(n)
abbrev pub column_type : List ℕ → Option ColumnType
column_type text =
    if bytes_eq text (codes "BIGINT") then Some BigInt
    else if bytes_eq text (codes "BIGINT UNSIGNED") then Some BigIntUnsigned
    else varbinary text

-- a column is NOT NULL unless its `null` is true
abbrev pub column_from : Option Name → Option ColumnType → Option (Option Bool) → Option Column
column_from (Some name) (Some kind) (Some null) = Some (record { name = name; kind = kind; nullable = unwrap_or null false })
column_from _ _ _ = None

abbrev pub column : Data → Option Column
column d =
    if has_only (codes "name" ∷ codes "type" ∷ codes "null" ∷ []) d
    then column_from (needed_member word (codes "name") d) (needed_member (λ e. option_and_then column_type (as_str e)) (codes "type") d) (optional as_bool (codes "null") d)
    else None

abbrev pub key_from : Option Name → Option Name → Option DeclaredKey
key_from (Some column) (Some vindex) = Some (record { column = column; vindex = vindex })
key_from _ _ = None

-- an entry of column_vindexes
abbrev pub key : Data → Option DeclaredKey
key d =
    if has_only (codes "column" ∷ codes "name" ∷ []) d
    then key_from (needed_member word (codes "column") d) (needed_member word (codes "name") d)
    else None

abbrev pub table_from : Name → Option (List Column) → Option (List Name) → Option (Option (List DeclaredKey)) → Option DeclaredTable
table_from name (Some columns) (Some primary_key) (Some keys) =
    Some (record { name = name; columns = columns; primary_key = primary_key; column_vindexes = keys })
table_from _ _ _ _ = None

abbrev pub table : Name → Data → Option DeclaredTable
table name d =
    if is_word name && has_only (codes "columns" ∷ codes "primary_key" ∷ codes "column_vindexes" ∷ []) d
    then table_from name (needed_member (array_of column) (codes "columns") d) (needed_member (array_of word) (codes "primary_key") d) (optional (array_of key) (codes "column_vindexes") d)
    else None

-- the vindexes by their names in Vitess
abbrev pub vindex_named : List ℕ → Option AnyVindex
vindex_named text =
    if bytes_eq text (codes "numeric") then Some Numeric
    else if bytes_eq text (codes "reverse_bits") then Some ReverseBits
    else if bytes_eq text (codes "binary") then Some Binary
    else if bytes_eq text (codes "binary_md5") then Some BinaryMd5
    else None

abbrev pub vindex_from : Name → Option (List ℕ) → Option DeclaredVindex
vindex_from name (Some kind) = Some (record { name = name; kind = vindex_named kind })
vindex_from _ _ = None

abbrev pub vindex : Name → Data → Option DeclaredVindex
vindex name d = if is_word name && has_only (codes "type" ∷ []) d then vindex_from name (needed_member as_str (codes "type") d) else None

abbrev pub keyspace_from : Name → Option Bool → Option (Option (List DeclaredVindex)) → Option (List DeclaredTable) → Option DeclaredKeyspace
keyspace_from name (Some sharded) (Some vindexes) (Some tables) =
    Some (record { name = name; sharded = sharded; vindexes = vindexes; tables = tables })
keyspace_from _ _ _ _ = None

abbrev pub keyspace : Name → Data → Option DeclaredKeyspace
keyspace name d =
    if is_word name && has_only (codes "sharded" ∷ codes "vindexes" ∷ codes "tables" ∷ []) d
    then keyspace_from name (needed_member as_bool (codes "sharded") d) (optional (object_of vindex) (codes "vindexes") d) (needed_member (object_of table) (codes "tables") d)
    else None

-- the keyspaces of a whole text, in the order of their names
abbrev pub document : Data → Option (List DeclaredKeyspace)
document d = if has_only (codes "keyspaces" ∷ []) d then needed_member (object_of keyspace) (codes "keyspaces") d else None
