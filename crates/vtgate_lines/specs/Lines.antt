-- The lines of a script, each ended by the byte 0A.
use Rattle.std.specs.Prelude.{◌≡◌, ◌≢◌, ℕ, Bool, not, ◌&&◌, ◌==◌, nat_le, IsTrue, List, [], ◌∷◌, ◌++◌, codes}
use Rattle.std.specs.List.{list_all}
use Rattle.vtgate_lines.specs.declared.lines.Line.{Line}
use Rattle.vtgate_lines.specs.declared.lines.Line.TheVariants.{Statement, Admin, Unknown}

abbrev pub is_lower_letter : ℕ → Bool
is_lower_letter b = nat_le 0x61 b && nat_le b 0x7A

-- one or more lower-case letters
abbrev pub IsName : List ℕ → Type 0
IsName name = IsTrue (list_all is_lower_letter name) × (name ≢ [])

-- name: SQL
abbrev pub IsStatementLine : List ℕ → List ℕ → List ℕ → Type 0
IsStatementLine text name sql = IsName name × (text ≡ name ++ codes ": " ++ sql)

-- ! words
abbrev pub IsAdminLine : List ℕ → List ℕ → Type 0
IsAdminLine text words = text ≡ codes "! " ++ words

-- what a line says
abbrev pub Says : List ℕ → Line → Type 0
Says text (Statement name sql) = IsStatementLine text name.now sql.now
Says text (Admin words) = IsAdminLine text words.now
Says text Unknown =
    ((name sql : List ℕ) → IsStatementLine text name sql → ⊥) × ((words : List ℕ) → IsAdminLine text words → ⊥)

abbrev pub is_inner : ℕ → Bool
is_inner b = not (b == 0x0A)

abbrev pub HasNoEnd : List ℕ → Type 0
HasNoEnd line = IsTrue (list_all is_inner line)

-- the input's first line, without its end, and what follows it; the last line may lack the end
pub data IsNextLine : List ℕ → List ℕ → List ℕ → Type 0 where
  ended : {line rest : List ℕ} → HasNoEnd line → IsNextLine (line ++ 0x0A ∷ rest) line rest
  last : {line : List ℕ} → HasNoEnd line → line ≢ [] → IsNextLine line line []
