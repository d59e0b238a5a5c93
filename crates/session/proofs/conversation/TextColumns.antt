-- Columns of texts, one more at a time.
use Rattle.std.proofs.Common.{ℕ, List, [], ◌∷◌, ◌++◌}
use Rattle.resultset.specs.declared.Column as R
use Rattle.session.specs.conversation.GivesText.{DefinesText, AllTexts}

pub one_more_text : (names : List (List ℕ)) (defined : List R.Column) (name : List ℕ) (d : R.Column) → AllTexts names defined → DefinesText name d
    → AllTexts (names ++ name ∷ []) (defined ++ d ∷ [])
one_more_text [] [] name d all is = (is, tt)
one_more_text [] (e ∷ defined) name d all is = absurd all
one_more_text (n ∷ names) [] name d all is = absurd all
one_more_text (n ∷ names) (e ∷ defined) name d all is = (all.0, one_more_text names defined name d all.1 is)
