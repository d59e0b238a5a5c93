-- Rows as COM_STMT_EXECUTE gives them: the binary protocol of the MySQL client/server protocol.
use Rattle.std.specs.Prelude.{ℕ, ℤ, pos, negsuc, ◌+◌, ◌-◌, ◌*◌, ◌/◌, ◌%◌, ◌^◌, Bool, true, false, List, [], ◌∷◌, ◌++◌, length, map}
use Rattle.std.specs.Fmt.{signed_decimal}
use Rattle.vt_value.specs.declared.value.Value.{Value}
use Rattle.vt_value.specs.declared.value.Value.TheVariants.{Null, Int, Bytes}
use Rattle.vt_value.specs.Values.{Row, is_null}
use Rattle.mysql_packet.specs.Numbers.{little_endian, length_encoded, length_encoded_string}
use Rattle.mysql_packet.specs.Frames.{frames_from}
use Rattle.mysql_message.specs.Messages.{ok_payload, err_payload}
use Rattle.resultset.specs.declared.Kind.{Kind}
use Rattle.resultset.specs.declared.Kind.TheVariants.{BigInt, BigIntUnsigned, VarBinary, Count as count_kind, Sum}
use Rattle.resultset.specs.declared.Column.{Column}
use Rattle.resultset.specs.declared.ResultSet.{ResultSet}
use Rattle.resultset.specs.declared.SetEnd.{SetEnd}
use Rattle.resultset.specs.declared.Outcome.{Outcome}
use Rattle.resultset.specs.declared.Outcome.TheVariants.{Rows, Count, Refused}
use Rattle.resultset.specs.Encoding.{definition_payload, after_definitions, after_rows}

-- a number by its two's complement in 64 bits
abbrev pub word_of : ℤ → ℕ
word_of (pos n) = n % 2 ^ 64
word_of (negsuc n) = 2 ^ 64 - 1 - n % 2 ^ 64

-- MYSQL_TYPE_LONGLONG is eight bytes; a sum is MYSQL_TYPE_NEWDECIMAL, which is a text
abbrev pub number_bytes : Kind → ℤ → List ℕ
number_bytes BigInt n = little_endian 8 (word_of n)
number_bytes BigIntUnsigned n = little_endian 8 (word_of n)
number_bytes count_kind n = little_endian 8 (word_of n)
number_bytes (VarBinary most) n = length_encoded_string (signed_decimal n)
number_bytes Sum n = length_encoded_string (signed_decimal n)

-- a value in a binary row: NULL has no bytes
abbrev pub binary_value : Kind → Value → List ℕ
binary_value kind Null = []
binary_value kind (Int n) = number_bytes kind n
binary_value kind (Bytes t) = length_encoded_string t

-- the number whose bits these are, the lowest first
abbrev pub number_of_bits : List Bool → ℕ
number_of_bits [] = 0
number_of_bits (true ∷ bits) = 1 + 2 * number_of_bits bits
number_of_bits (false ∷ bits) = 2 * number_of_bits bits

-- a bit for each value, the lowest first, after two that are unused: in as few bytes as hold them
abbrev pub null_bitmap : Row → List ℕ
null_bitmap row = little_endian ((length row + 9) / 8) (4 * number_of_bits (map is_null row))

-- the values of a row, each as a column of its kind has it
abbrev pub binary_values : List Kind → Row → List ℕ
binary_values [] row = []
binary_values (k ∷ kinds) [] = []
binary_values (k ∷ kinds) (v ∷ row) = binary_value k v ++ binary_values kinds row

-- a binary row: its header, which values are NULL, and the others
abbrev pub binary_row_payload : List Kind → Row → List ℕ
binary_row_payload kinds row = 0x00 ∷ null_bitmap row ++ binary_values kinds row

abbrev pub kinds_of : List Column → List Kind
kinds_of columns = map (λ c. c.kind) columns

-- a result set of binary rows: only the rows are spelled otherwise than those of a text
abbrev pub binary_set_payloads : SetEnd → ResultSet → ℕ → List (List ℕ)
binary_set_payloads end set status =
    (length_encoded (length set.columns) ∷ map definition_payload set.columns)
    ++ (after_definitions end status ++ map (binary_row_payload (kinds_of set.columns)) set.rows) ++ after_rows end status ∷ []

abbrev pub binary_payloads_of : SetEnd → Outcome → ℕ → List (List ℕ)
binary_payloads_of end (Rows set) status = binary_set_payloads end set status
binary_payloads_of end (Count n) status = ok_payload n status ∷ []
binary_payloads_of end (Refused r) status = err_payload r ∷ []

-- the one spelling of what a prepared statement gives, from its first sequence number
abbrev pub binary_encoded : SetEnd → Outcome → ℕ → ℕ → List ℕ
binary_encoded end outcome number status = frames_from number (binary_payloads_of end outcome status)
