-- The parts of the format that Prometheus reads, version 0.0.4.
use Rattle.std.specs.Prelude.{ℕ, zero, suc, List, [], ◌∷◌, ◌++◌, ◌+◌, ◌/◌, ◌%◌, ◌==◌, codes, flat_map, if◌then◌else◌}
use Rattle.std.specs.Fmt.{decimal}
use Rattle.status_page.specs.declared.families.Family.{Family}
use Rattle.status_page.specs.Families.{family_help, family_kind, family_name}

-- a byte of a label's value: a backslash, a quote and a line break are escaped
abbrev pub label_byte : ℕ → List ℕ
label_byte b = if b == 0x5C then codes "\\\\" else if b == 0x22 then codes "\\\"" else if b == 0x0A then codes "\\n" else b ∷ []

abbrev pub digit_of : ℕ → ℕ
digit_of n = 48 + n % 10

-- the last six digits
abbrev pub six_digits : ℕ → List ℕ
six_digits n =
    digit_of (n / 100000) ∷ digit_of (n / 10000) ∷ digit_of (n / 1000) ∷ digit_of (n / 100) ∷ digit_of (n / 10) ∷ digit_of n ∷ []

-- microseconds as seconds
unfoldable pub seconds_text : ℕ → List ℕ
seconds_text n = decimal (n / 1000000) ++ 46 ∷ six_digits n

-- the name of a family, what it is, and of which type
unfoldable pub head_text : List ℕ → List ℕ → List ℕ → List ℕ
head_text name help kind =
    codes "# HELP " ++ name ++ codes " " ++ help ++ codes "\n# TYPE " ++ name ++ codes " " ++ kind ++ codes "\n"

-- what a family is
unfoldable pub family_text : Family → List ℕ
family_text f = head_text (family_name f) (family_help f) (family_kind f)

-- a family that has one sample, without labels
unfoldable pub plain_text : Family → ℕ → List ℕ
plain_text f value = family_text f ++ family_name f ++ codes " " ++ decimal value ++ codes "\n"

-- a sample with one label
unfoldable pub labelled_text : Family → List ℕ → List ℕ → ℕ → List ℕ
labelled_text f label value number =
    family_name f ++ codes "{" ++ label ++ codes "=\"" ++ flat_map label_byte value ++ codes "\"} " ++ decimal number ++ codes "\n"

-- the first so many of numbered lines
abbrev pub first_lines : (ℕ → List ℕ) → ℕ → List ℕ
first_lines line zero = []
first_lines line (suc n) = first_lines line n ++ line n
