-- Values as COM_STMT_EXECUTE of the MySQL client/server protocol has them: how the bytes of each type spell a value.
use Rattle.std.specs.Prelude.{ℕ, ℤ, pos, negsuc, ◌+◌, ◌-◌, ◌<◌, ◌^◌, ◌==◌, ◌||◌, ◌&&◌, Bool, true, false, nat_lt, nat_le, List, [], Option, Some, None, if◌then◌else◌}
use Rattle.vt_value.specs.declared.value.Value.{Value}
use Rattle.vt_value.specs.declared.value.Value.TheVariants.{Null, Int, Bytes}
use Rattle.mysql_packet.specs.Numbers.{little_endian, length_encoded_string}
use Rattle.statement_values.specs.declared.ParameterType.{ParameterType}
use Rattle.statement_values.specs.declared.ParameterType.TheVariants as p
use Rattle.statement_values.specs.declared.Width.{Width}
use Rattle.statement_values.specs.declared.Width.TheVariants as w
use Rattle.statement_values.specs.Floats.{IsSingle, IsDouble, IsInRange}
use Rattle.statement_values.specs.Decimals.{IsDecimal}

-- VARCHAR, the four BLOBs, VAR_STRING, STRING
abbrev pub is_text_type : ℕ → Bool
is_text_type t = (t == 0x0F) || nat_le 0xF9 t && nat_le t 0xFE

-- DECIMAL and NEWDECIMAL, which are sent as texts
abbrev pub is_decimal_type : ℕ → Bool
is_decimal_type t = (t == 0x00) || (t == 0xF6)

-- TINY, SHORT, LONG, INT24 which is sent as LONG is, LONGLONG
abbrev pub width_named : ℕ → Option Width
width_named t =
    if t == 0x01 then Some w.One
    else if t == 0x02 then Some w.Two
    else if (t == 0x03) || (t == 0x09) then Some w.Four
    else if t == 0x08 then Some w.Eight
    else None

-- The type that two bytes name: its number, and 0x80 if a number has no sign.
abbrev pub number_type : Option Width → ℕ → Option ParameterType
number_type None flags = None
number_type (Some width) flags = Some (p.Number width (nat_le 0x80 flags))

abbrev pub type_named : ℕ → ℕ → Option ParameterType
type_named t flags =
    if t == 0x06 then Some p.Null
    else if is_text_type t then Some p.Text
    else if t == 0x04 then Some p.Single
    else if t == 0x05 then Some p.Double
    else if is_decimal_type t then Some p.Decimal
    else number_type (width_named t) flags

-- how many bytes a number has
abbrev pub width_of : Width → ℕ
width_of w.One = 1
width_of w.Two = 2
width_of w.Four = 4
width_of w.Eight = 8

-- a number of so many bytes by its two's complement, if it has a sign
abbrev pub signed_of : ℕ → ℕ → ℤ
signed_of half n = if nat_lt n half then pos n else negsuc (half + half - n - 1)

abbrev pub number_of : Bool → ℕ → ℕ → Value
number_of true half n = Int (pos n)
number_of false half n = Int (signed_of half n)

-- half of the numbers that a width has
abbrev pub half_of : Width → ℕ
half_of w.One = 0x80
half_of w.Two = 0x8000
half_of w.Four = 0x80000000
half_of w.Eight = 0x8000000000000000

-- The bytes spell the value by its type. NULL has none; a float and a decimal are whole numbers, and a text stands after its length.
pub data Spells : ParameterType → List ℕ → Value → Type 0 where
  null : Spells p.Null [] Null
  number : {unsigned : Bool} (width : Width) (n : ℕ) → n < half_of width + half_of width
      → Spells (p.Number width unsigned) (little_endian (width_of width) n) (number_of unsigned (half_of width) n)
  single : {bits : ℕ} {z : ℤ} → bits < 2 ^ 32 → IsSingle bits z → IsInRange z → Spells p.Single (little_endian 4 bits) (Int z)
  double : {bits : ℕ} {z : ℤ} → bits < 2 ^ 64 → IsDouble bits z → IsInRange z → Spells p.Double (little_endian 8 bits) (Int z)
  decimal : {text : List ℕ} {z : ℤ} → IsDecimal text z → IsInRange z → Spells p.Decimal (length_encoded_string text) (Int z)
  text : (bytes : List ℕ) → Spells p.Text (length_encoded_string bytes) (Bytes bytes)

-- The bytes have the form of the type, and spell no value that is taken: a float or a decimal that isn't whole, or isn't in range.
pub data SpellsOther : ParameterType → List ℕ → Type 0 where
  other_single : {bits : ℕ} → bits < 2 ^ 32 → ((z : ℤ) → IsSingle bits z → IsInRange z → ⊥) → SpellsOther p.Single (little_endian 4 bits)
  other_double : {bits : ℕ} → bits < 2 ^ 64 → ((z : ℤ) → IsDouble bits z → IsInRange z → ⊥) → SpellsOther p.Double (little_endian 8 bits)
  other_decimal : {text : List ℕ} → ((z : ℤ) → IsDecimal text z → IsInRange z → ⊥) → SpellsOther p.Decimal (length_encoded_string text)
