-- Result sets of documented examples.
use Rattle.std.proofs.Common.{[], ◌∷◌, ◌++◌, ◌≡◌, refl, replicate, pos, negsuc, neg_ℤ, ◌+◌, ◌^◌, ◌≤◌, ◌≤ℤ◌, ap, ◌∙◌, lit<}
use Rattle.std.specs.Fmt.{decimal, digits}
use Rattle.std.proofs.lemmas.Fmt.{decimal_digit}
use Rattle.mysql_packet.specs.Numbers.{length_encoded_string}
use Rattle.mysql_message.specs.Messages.{eof_payload, set_end_payload}
use Rattle.mysql_message.specs.TextValues.{value_bytes}
use Rattle.std.specs.Prelude.{codes}
use Rattle.vt_value.specs.declared.value.Value.TheVariants.{Null, Int, Bytes}
use Rattle.mysql_packet.specs.Frames.{frames_from, number_after_all}
use Rattle.resultset.specs.declared.Kind.TheVariants.{BigInt, BigIntUnsigned, VarBinary, Count, Sum}
use Rattle.resultset.specs.declared.Column.{Column}
use Rattle.resultset.specs.declared.SetEnd.TheVariants.{EofPackets, OkPacket}
use Rattle.resultset.specs.declared.Outcome.TheVariants.{Rows}
use Rattle.resultset.specs.Encoding.{row_payload, encoded, definition_payload, fixed_fields, FitsKind}

-- t.id, a BIGINT UNSIGNED primary key, and t.c, which may be NULL
abbrev id : Column
id = record { schema = codes "shop"; table = codes "t"; name = codes "id"; org_name = codes "id"; kind = BigIntUnsigned; flags = 163; allowed = refl }

abbrev c : Column
c = record { schema = codes "shop"; table = codes "t"; name = codes "c"; org_name = codes "c"; kind = BigIntUnsigned; flags = 160; allowed = refl }

null_and_empty : row_payload (Null ∷ Bytes [] ∷ []) ≡ 0xFB ∷ 0x00 ∷ []
null_and_empty = refl

five : row_payload (Int (pos 5) ∷ []) ≡ 1 ∷ 0x35 ∷ []
five = ap (λ d. length_encoded_string d ++ []) (decimal_digit 5 (lit< tt))

five_and_nine : row_payload (Int (pos 5) ∷ Int (pos 9) ∷ []) ≡ 1 ∷ 0x35 ∷ 1 ∷ 0x39 ∷ []
five_and_nine =
    ap (λ d. length_encoded_string d ++ (length_encoded_string (decimal 9) ++ [])) (decimal_digit 5 (lit< tt))
    ∙ ap (λ d. 1 ∷ 0x35 ∷ length_encoded_string d ++ []) (decimal_digit 9 (lit< tt))

-- SELECT id FROM t WHERE id = 5
one_column : encoded EofPackets (Rows (record { columns = id ∷ []; rows = (Int (pos 5) ∷ []) ∷ [] })) 1 2
    ≡ 0x01 ∷ 0x00 ∷ 0x00 ∷ 0x01 ∷ 0x01
    ∷ 0x20 ∷ 0x00 ∷ 0x00 ∷ 0x02 ∷ 0x03 ∷ 0x64 ∷ 0x65 ∷ 0x66 ∷ 0x04 ∷ 0x73 ∷ 0x68 ∷ 0x6F ∷ 0x70 ∷ 0x01 ∷ 0x74 ∷ 0x01 ∷ 0x74 ∷ 0x02 ∷ 0x69 ∷ 0x64 ∷ 0x02 ∷ 0x69 ∷ 0x64 ∷ 0x0C ∷ 0x3F ∷ 0x00 ∷ 0x14 ∷ 0x00 ∷ 0x00 ∷ 0x00 ∷ 0x08 ∷ 0xA3 ∷ 0x00 ∷ 0x00 ∷ 0x00 ∷ 0x00
    ∷ 0x05 ∷ 0x00 ∷ 0x00 ∷ 0x03 ∷ 0xFE ∷ 0x00 ∷ 0x00 ∷ 0x02 ∷ 0x00
    ∷ 0x02 ∷ 0x00 ∷ 0x00 ∷ 0x04 ∷ 0x01 ∷ 0x35
    ∷ 0x05 ∷ 0x00 ∷ 0x00 ∷ 0x05 ∷ 0xFE ∷ 0x00 ∷ 0x00 ∷ 0x02 ∷ 0x00 ∷ []
one_column = ap (λ v. frames_from 1 ((1 ∷ []) ∷ definition_payload id ∷ eof_payload 2 ∷ v ∷ eof_payload 2 ∷ [])) five

-- the same without EOF packets
without_eof : encoded OkPacket (Rows (record { columns = id ∷ []; rows = (Int (pos 5) ∷ []) ∷ [] })) 1 2
    ≡ 0x01 ∷ 0x00 ∷ 0x00 ∷ 0x01 ∷ 0x01
    ∷ 0x20 ∷ 0x00 ∷ 0x00 ∷ 0x02 ∷ 0x03 ∷ 0x64 ∷ 0x65 ∷ 0x66 ∷ 0x04 ∷ 0x73 ∷ 0x68 ∷ 0x6F ∷ 0x70 ∷ 0x01 ∷ 0x74 ∷ 0x01 ∷ 0x74 ∷ 0x02 ∷ 0x69 ∷ 0x64 ∷ 0x02 ∷ 0x69 ∷ 0x64 ∷ 0x0C ∷ 0x3F ∷ 0x00 ∷ 0x14 ∷ 0x00 ∷ 0x00 ∷ 0x00 ∷ 0x08 ∷ 0xA3 ∷ 0x00 ∷ 0x00 ∷ 0x00 ∷ 0x00
    ∷ 0x02 ∷ 0x00 ∷ 0x00 ∷ 0x03 ∷ 0x01 ∷ 0x35
    ∷ 0x07 ∷ 0x00 ∷ 0x00 ∷ 0x04 ∷ 0xFE ∷ 0x00 ∷ 0x00 ∷ 0x02 ∷ 0x00 ∷ 0x00 ∷ 0x00 ∷ []
without_eof = ap (λ v. frames_from 1 ((1 ∷ []) ∷ definition_payload id ∷ v ∷ set_end_payload 2 ∷ [])) five

-- SELECT * FROM t WHERE id = 5
two_columns : encoded EofPackets (Rows (record { columns = id ∷ c ∷ []; rows = (Int (pos 5) ∷ Int (pos 9) ∷ []) ∷ [] })) 1 2
    ≡ 0x01 ∷ 0x00 ∷ 0x00 ∷ 0x01 ∷ 0x02
    ∷ 0x20 ∷ 0x00 ∷ 0x00 ∷ 0x02 ∷ 0x03 ∷ 0x64 ∷ 0x65 ∷ 0x66 ∷ 0x04 ∷ 0x73 ∷ 0x68 ∷ 0x6F ∷ 0x70 ∷ 0x01 ∷ 0x74 ∷ 0x01 ∷ 0x74 ∷ 0x02 ∷ 0x69 ∷ 0x64 ∷ 0x02 ∷ 0x69 ∷ 0x64 ∷ 0x0C ∷ 0x3F ∷ 0x00 ∷ 0x14 ∷ 0x00 ∷ 0x00 ∷ 0x00 ∷ 0x08 ∷ 0xA3 ∷ 0x00 ∷ 0x00 ∷ 0x00 ∷ 0x00
    ∷ 0x1E ∷ 0x00 ∷ 0x00 ∷ 0x03 ∷ 0x03 ∷ 0x64 ∷ 0x65 ∷ 0x66 ∷ 0x04 ∷ 0x73 ∷ 0x68 ∷ 0x6F ∷ 0x70 ∷ 0x01 ∷ 0x74 ∷ 0x01 ∷ 0x74 ∷ 0x01 ∷ 0x63 ∷ 0x01 ∷ 0x63 ∷ 0x0C ∷ 0x3F ∷ 0x00 ∷ 0x14 ∷ 0x00 ∷ 0x00 ∷ 0x00 ∷ 0x08 ∷ 0xA0 ∷ 0x00 ∷ 0x00 ∷ 0x00 ∷ 0x00
    ∷ 0x05 ∷ 0x00 ∷ 0x00 ∷ 0x04 ∷ 0xFE ∷ 0x00 ∷ 0x00 ∷ 0x02 ∷ 0x00
    ∷ 0x04 ∷ 0x00 ∷ 0x00 ∷ 0x05 ∷ 0x01 ∷ 0x35 ∷ 0x01 ∷ 0x39
    ∷ 0x05 ∷ 0x00 ∷ 0x00 ∷ 0x06 ∷ 0xFE ∷ 0x00 ∷ 0x00 ∷ 0x02 ∷ 0x00 ∷ []
two_columns = ap (λ v. frames_from 1 ((2 ∷ []) ∷ definition_payload id ∷ definition_payload c ∷ eof_payload 2 ∷ v ∷ eof_payload 2 ∷ [])) five_and_nine

-- 300 rows, from the fourth packet on: row 252 has number 255, row 253 has 0, and the last packet has 48
row_252 : number_after_all 4 (replicate 251 (1 ∷ 0x35 ∷ [])) ≡ 255
row_252 = refl

row_253 : number_after_all 4 (replicate 252 (1 ∷ 0x35 ∷ [])) ≡ 0
row_253 = refl

last_packet : number_after_all 4 (replicate 300 (1 ∷ 0x35 ∷ [])) ≡ 48
last_packet = refl

-- a number is no text, and a text is at most as long as its column
text_is_no_number : FitsKind BigInt (Bytes []) ≡ ⊥
text_is_no_number = refl

count_is_no_text : FitsKind Count (Bytes []) ≡ ⊥
count_is_no_text = refl

text_fits : FitsKind (VarBinary 3) (Bytes (1 ∷ 2 ∷ [])) ≡ (2 ≤ 3)
text_fits = refl

-- numbers as decimals
twenty_digits : value_bytes (Int (pos 18446744073709551615)) ≡ 20 ∷ codes "18446744073709551615"
unfolding digits
twenty_digits = refl

negative : value_bytes (Int (negsuc 41)) ≡ 3 ∷ codes "-42"
unfolding digits
negative = refl

-- a length is spelled in four bytes, so two that differ by 2 ^ 32 are spelled alike
same_spelling : fixed_fields (VarBinary 5) 128 ≡ fixed_fields (VarBinary (2 ^ 32 + 5)) 128
same_spelling = refl

-- SUM may exceed 64 bits, COUNT may not
large_sum : FitsKind Sum (Int (pos (2 ^ 124))) ≡ ((neg_ℤ (pos (2 ^ 124)) ≤ℤ pos (2 ^ 124)) × (pos (2 ^ 124) ≤ℤ pos (2 ^ 124)))
large_sum = refl
