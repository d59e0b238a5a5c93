-- The values of a row in the text protocol of the MySQL client/server protocol.
use Rattle.std.specs.Prelude.{ℕ, List, [], ◌∷◌}
use Rattle.std.specs.Fmt.{signed_decimal}
use Rattle.vt_value.specs.declared.value.Value.{Value}
use Rattle.vt_value.specs.declared.value.Value.TheVariants.{Null, Int, Bytes}
use Rattle.mysql_packet.specs.Numbers.{length_encoded_string}

-- a value in a text row: NULL is the byte FB, a number its plain decimal, a text itself
abbrev pub value_bytes : Value → List ℕ
value_bytes Null = 0xFB ∷ []
value_bytes (Int n) = length_encoded_string (signed_decimal n)
value_bytes (Bytes t) = length_encoded_string t
