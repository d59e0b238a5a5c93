-- What a statement is, by its first word.
use Rattle.std.specs.Prelude.{◌≡◌, ℕ, List, [], ◌∷◌, ◌||◌, true, Option, Some, None, unwrap_or, codes, if◌then◌else◌}
use Rattle.std.specs.Char.{is_ascii_alphanumeric}
use Rattle.std.specs.Str.{str_eq_ignore_ascii_case}
use Rattle.status_figures.specs.declared.kind.Kind.{Kind}
use Rattle.status_figures.specs.declared.kind.Kind.TheVariants.{Select, Insert, Update, Delete, Begin, Commit, Rollback, Set, Show, Other}

abbrev pub kind_over_rows : List ℕ → Option Kind
kind_over_rows word =
    if str_eq_ignore_ascii_case word (codes "select") then Some Select
    else if str_eq_ignore_ascii_case word (codes "insert") then Some Insert
    else if str_eq_ignore_ascii_case word (codes "update") then Some Update
    else if str_eq_ignore_ascii_case word (codes "delete") then Some Delete
    else None

abbrev pub kind_besides_rows : List ℕ → Kind
kind_besides_rows word =
    if str_eq_ignore_ascii_case word (codes "begin") || str_eq_ignore_ascii_case word (codes "start") then Begin
    else if str_eq_ignore_ascii_case word (codes "commit") then Commit
    else if str_eq_ignore_ascii_case word (codes "rollback") then Rollback
    else if str_eq_ignore_ascii_case word (codes "set") then Set
    else if str_eq_ignore_ascii_case word (codes "show") then Show
    else Other

abbrev pub kind_named : List ℕ → Kind
kind_named word = unwrap_or (kind_over_rows word) (kind_besides_rows word)

-- a text that has neither blanks nor comments before its first word
abbrev pub BeginsWithWord : List ℕ → Type 0
BeginsWithWord [] = ⊥
BeginsWithWord (b ∷ text) = is_ascii_alphanumeric b ≡ true
