-- Columns under the names that a client gave, from the last one on.
use Rattle.std.proofs.Common.{◌≡◌, ℕ, List, [], ◌∷◌, ◌++◌, length, Option, Some, refl, sym, ap, ◌∙◌, append_assoc}
use Rattle.std.specs.Prelude.{slice_get, reverse}
use Rattle.std.proofs.lemmas.List.{reverse-append}
use Rattle.resultset.specs.declared.Column as R
use Rattle.session.specs.conversation.GivesText.{named_column, named_columns}

pub none_named : (names : List (Option (List ℕ))) → named_columns names [] ≡ []
none_named [] = refl
none_named (n ∷ names) = refl

pub named_last : (names : List (Option (List ℕ))) (columns : List R.Column) (c : R.Column)
    → named_columns names (columns ++ c ∷ []) ≡ named_columns names columns ++ named_column (slice_get names (length columns)) c ∷ []
named_last [] [] c = refl
named_last [] (d ∷ columns) c = refl
named_last (n ∷ names) [] c = ap (λ (ds : List R.Column). named_column (Some n) c ∷ ds) (none_named names)
named_last (n ∷ names) (d ∷ columns) c = ap (λ (ds : List R.Column). named_column (Some n) d ∷ ds) (named_last names columns c)

-- the last column joins those that have their names
pub joins_named : (names : List (Option (List ℕ))) (columns named : List R.Column) (c : R.Column)
    → named_columns names columns ++ reverse (named ++ named_column (slice_get names (length columns)) c ∷ [])
    ≡ named_columns names (columns ++ c ∷ []) ++ reverse named
joins_named names columns named c =
    let last = named_column (slice_get names (length columns)) c in
    ap (λ (ds : List R.Column). named_columns names columns ++ ds) (reverse-append named (last ∷ []))
    ∙ sym (append_assoc (named_columns names columns) (last ∷ []) (reverse named))
    ∙ ap (λ (ds : List R.Column). ds ++ reverse named) (sym (named_last names columns c))

-- the last column is the next of those turned round
pub joins_turned : (columns turned : List R.Column) (c : R.Column) → (turned ++ c ∷ []) ++ reverse columns ≡ turned ++ reverse (columns ++ c ∷ [])
joins_turned columns turned c =
    append_assoc turned (c ∷ []) (reverse columns) ∙ ap (λ (ds : List R.Column). turned ++ ds) (sym (reverse-append columns (c ∷ [])))
