-- The names of ranges, as `40-80`, `-80` or `-`.
use Rattle.std.specs.Prelude.{◌≡◌, ◌≢◌, ◌⊎◌, ℕ, ◌-◌, ◌+◌, ◌/◌, ◌%◌, ◌≤◌, nat_lt, IsTrue, IfSome, List, [], ◌∷◌, ◌++◌}
use Rattle.std.specs.Prelude.{length, flat_map, slice_index, codes, Option, Some, None, if◌then◌else◌}
use Rattle.keyrange.specs.declared.KeyRange.{KeyRange}
use Rattle.keyrange.specs.Ranges.{IsByteString, is_before}

abbrev pub hex_digit : ℕ → ℕ
hex_digit d = if nat_lt d 10 then 0x30 + d else 0x57 + d

-- two lower-case hexadecimal digits a byte
abbrev pub hex : List ℕ → List ℕ
hex bytes = flat_map (λ b. hex_digit (b / 16) ∷ hex_digit (b % 16) ∷ []) bytes

abbrev pub end_text : Option (List ℕ) → List ℕ
end_text None = []
end_text (Some end) = hex end

abbrev pub range_text : KeyRange → List ℕ
range_text range = hex range.begin ++ codes "-" ++ end_text range.end

-- up to 8 bytes, of which the last isn't 0
abbrev pub IsEdge : List ℕ → Type 0
IsEdge bytes = IsByteString bytes × (length bytes ≤ 8) × ((bytes ≡ []) ⊎ (slice_index bytes (length bytes - 1) ≢ 0))

-- a range that has a name: the end, if there is one, isn't empty and comes after the begin
abbrev pub IsNamed : KeyRange → Type 0
IsNamed range =
    IsEdge range.begin × IfSome range.end (λ end. IsEdge end × (end ≢ []) × IsTrue (is_before range.begin end))

-- the text is the range's name
abbrev pub IsNameOf : List ℕ → KeyRange → Type 0
IsNameOf text range = IsNamed range × (text ≡ range_text range)
