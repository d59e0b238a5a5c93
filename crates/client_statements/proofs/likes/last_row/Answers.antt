use Rattle.std.proofs.Common.{◌∷◌, [], ◌++◌, ◌∙◌, Bool, List, true, ap}
use Rattle.client_statements.proofs.Rows.{row_last}
use Rattle.client_statements.proofs.likes.last_row.Goals as goal

pub returns : goal.returns
returns c =
    c.in_ok-push.ensures.items ∙ ap (λ (xs : List Bool). xs ++ true ∷ []) (c.in_ok-row.ensures.items_if_clones_equal (λ y h. h)) ∙ row_last c.args.text.now
