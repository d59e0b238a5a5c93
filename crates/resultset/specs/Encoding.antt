-- The packets of a result: the text protocol of the MySQL client/server protocol, with EOF packets, and without them if
-- client and server set CLIENT_DEPRECATE_EOF.
use Rattle.std.specs.Prelude.{◌≡◌, ℕ, ℤ, pos, negsuc, neg_ℤ, ◌^◌, ◌<◌, ◌≤◌, ◌≤ℤ◌, List, [], ◌∷◌, ◌++◌, length, map, flat_map, codes}
use Rattle.std.specs.List.{AllByRecursion}
use Rattle.vt_value.specs.declared.value.Value.{Value}
use Rattle.vt_value.specs.declared.value.Value.TheVariants.{Null, Int, Bytes}
use Rattle.vt_value.specs.Values.{Row}
use Rattle.mysql_packet.specs.Numbers.{little_endian, length_encoded, length_encoded_string}
use Rattle.mysql_packet.specs.Frames.{frames_from}
use Rattle.mysql_message.specs.Messages.{ok_payload, eof_payload, set_end_payload, err_payload}
use Rattle.mysql_message.specs.TextValues.{value_bytes}
use Rattle.resultset.specs.declared.Kind.{Kind}
use Rattle.resultset.specs.declared.Kind.TheVariants.{BigInt, BigIntUnsigned, VarBinary, Count as count_kind, Sum}
use Rattle.resultset.specs.declared.Column.{Column}
use Rattle.resultset.specs.declared.ResultSet.{ResultSet}
use Rattle.resultset.specs.declared.SetEnd.{SetEnd}
use Rattle.resultset.specs.declared.SetEnd.TheVariants.{EofPackets, OkPacket}
use Rattle.resultset.specs.declared.Outcome.{Outcome}
use Rattle.resultset.specs.declared.Outcome.TheVariants.{Rows, Count, Refused}
use Rattle.resultset.specs.Flags.{type_of, length_of}

abbrev pub row_payload : Row → List ℕ
row_payload row = flat_map value_bytes row

-- the names of a column definition: the catalog, the schema, the table's two names and the column's two
abbrev pub name_fields : Column → List ℕ
name_fields c =
    length_encoded_string (codes "def") ++ length_encoded_string c.schema
    ++ length_encoded_string c.table ++ length_encoded_string c.table
    ++ length_encoded_string c.name ++ length_encoded_string c.org_name

-- its fixed fields: how many bytes they are, the character set binary, the length, the type, the flags, no decimals,
-- two unused bytes
abbrev pub fixed_fields : Kind → ℕ → List ℕ
fixed_fields kind flags =
    0x0C ∷ little_endian 2 63 ++ little_endian 4 (length_of kind)
    ++ type_of kind ∷ little_endian 2 flags ++ 0 ∷ 0 ∷ 0 ∷ []

-- a column definition
abbrev pub definition_payload : Column → List ℕ
definition_payload c = name_fields c ++ fixed_fields c.kind c.flags

-- what comes after the definitions of a result set, and what after its rows
abbrev pub after_definitions : SetEnd → ℕ → List (List ℕ)
after_definitions EofPackets status = eof_payload status ∷ []
after_definitions OkPacket status = []

abbrev pub after_rows : SetEnd → ℕ → List ℕ
after_rows EofPackets status = eof_payload status
after_rows OkPacket status = set_end_payload status

-- a result set: the number of columns, each definition and what comes after them, each row and what comes after them
abbrev pub set_payloads : SetEnd → ResultSet → ℕ → List (List ℕ)
set_payloads end set status =
    (length_encoded (length set.columns) ∷ map definition_payload set.columns)
    ++ (after_definitions end status ++ map row_payload set.rows) ++ after_rows end status ∷ []

abbrev pub payloads_of : SetEnd → Outcome → ℕ → List (List ℕ)
payloads_of end (Rows set) status = set_payloads end set status
payloads_of end (Count n) status = ok_payload n status ∷ []
payloads_of end (Refused r) status = err_payload r ∷ []

-- the one spelling of a result, from its first sequence number
abbrev pub encoded : SetEnd → Outcome → ℕ → ℕ → List ℕ
encoded end outcome number status = frames_from number (payloads_of end outcome status)

abbrev pub Encodes : SetEnd → Outcome → ℕ → ℕ → List ℕ → Type 0
Encodes end outcome number status bytes = bytes ≡ encoded end outcome number status

-- SUM over a table of 2 ^ 60 numbers lies far within these bounds
abbrev pub sum_bound : ℤ
sum_bound = pos (2 ^ 124)

-- a value that a column of the kind may hold
abbrev pub FitsKind : Kind → Value → Type 0
FitsKind kind Null = Unit {0}
FitsKind BigInt (Int n) = (negsuc 9223372036854775807 ≤ℤ n) × (n ≤ℤ pos 9223372036854775807)
FitsKind BigIntUnsigned (Int n) = (pos 0 ≤ℤ n) × (n ≤ℤ pos 18446744073709551615)
FitsKind (VarBinary most) (Int n) = ⊥
FitsKind count_kind (Int n) = (pos 0 ≤ℤ n) × (n ≤ℤ pos 9223372036854775807)
FitsKind Sum (Int n) = (neg_ℤ sum_bound ≤ℤ n) × (n ≤ℤ sum_bound)
FitsKind BigInt (Bytes t) = ⊥
FitsKind BigIntUnsigned (Bytes t) = ⊥
FitsKind (VarBinary most) (Bytes t) = length t ≤ most
FitsKind count_kind (Bytes t) = ⊥
FitsKind Sum (Bytes t) = ⊥

-- a row has a value for each column, of its kind
abbrev pub RowFits : List Column → Row → Type 0
RowFits [] [] = Unit {0}
RowFits [] (v ∷ row) = ⊥
RowFits (c ∷ columns) [] = ⊥
RowFits (c ∷ columns) (v ∷ row) = FitsKind c.kind v × RowFits columns row

-- what a statement may give: at least one column, and rows that fit them
abbrev pub IsResult : Outcome → Type 0
IsResult (Rows set) = (0 < length set.columns) × AllByRecursion (RowFits set.columns) set.rows
IsResult (Count n) = n < 2 ^ 64
IsResult (Refused r) = Unit {0}

-- a result whose one packet is short
abbrev pub IsSmall : Outcome → Type 0
IsSmall (Rows set) = ⊥
IsSmall (Count n) = Unit {0}
IsSmall (Refused r) = Unit {0}

-- The length of a VARBINARY column is a byte in the code, and a number of any size in a definition. This says that it
-- is a byte: longer ones have no column, and two that differ by 2 ^ 32 have one spelling.
abbrev pub IsByteLong : Kind → Type 0
IsByteLong BigInt = Unit {0}
IsByteLong BigIntUnsigned = Unit {0}
IsByteLong (VarBinary most) = most < 256
IsByteLong count_kind = Unit {0}
IsByteLong Sum = Unit {0}

abbrev pub IsTyped : Outcome → Type 0
IsTyped (Rows set) = AllByRecursion (λ c. IsByteLong c.kind) set.columns
IsTyped (Count n) = Unit {0}
IsTyped (Refused r) = Unit {0}
