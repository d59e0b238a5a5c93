-- The lines that answer a statement.
use Rattle.std.specs.Prelude.{ℕ, Bool, not, ◌&&◌, ◌==◌, nat_le, List, [], ◌∷◌, ◌++◌, length, map, flat_map, codes, if◌then◌else◌}
use Rattle.std.specs.Fmt.{decimal, signed_decimal}
use Rattle.vt_value.specs.declared.value.Value.{Value}
use Rattle.vt_value.specs.declared.value.Value.TheVariants.{Null, Int, Bytes}
use Rattle.vt_value.specs.declared.refusal.Refusal.{Refusal}
use Rattle.vt_value.specs.Refusals.{code_of, state_of, message_of}
use Rattle.vt_value.specs.Values.{Row}
use Rattle.keyrange.specs.Names.{hex}
use Rattle.sql_tree.specs.Printing.{joined}

-- a byte of a text that is printed as it is: from 20 to 7E, and no quote or backslash
abbrev pub is_printable : ℕ → Bool
is_printable b = nat_le 0x20 b && nat_le b 0x7E && not (b == 0x27) && not (b == 0x5C)

-- any other is `\x` and two lower-case hexadecimal digits
abbrev pub byte_text : ℕ → List ℕ
byte_text b = if is_printable b then b ∷ [] else codes "\\x" ++ hex (b ∷ [])

abbrev pub printed_value : Value → List ℕ
printed_value Null = codes "NULL"
printed_value (Int n) = signed_decimal n
printed_value (Bytes text) = codes "'" ++ flat_map byte_text text ++ codes "'"

-- the values of a row, with bars between them
abbrev pub printed_row : Row → List ℕ
printed_row row = joined (codes "|") (map printed_value row)

abbrev pub line : List ℕ → List ℕ
line text = text ++ 0x0A ∷ []

-- a line for each row, and how many there are
abbrev pub rows_text : List Row → List ℕ
rows_text rows = flat_map (λ row. line (printed_row row)) rows ++ line (codes "rows " ++ decimal (length rows))

abbrev pub count_text : ℕ → List ℕ
count_text n = line (codes "ok " ++ decimal n)

abbrev pub refusal_text : Refusal → List ℕ
refusal_text r =
    line (codes "ERROR " ++ decimal (code_of r) ++ codes " (" ++ state_of r ++ codes "): " ++ message_of r)
