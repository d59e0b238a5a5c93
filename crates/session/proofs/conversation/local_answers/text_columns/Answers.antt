use Rattle.std.proofs.Common.{◌≡◌, ◌∷◌, [], ◌++◌, ◌+◌, ◌∙◌, take, arith, sym, ap, ℕ, List}
use Rattle.std.proofs.lemmas.List.{take_more}
use Rattle.session.proofs.conversation.TextColumns.{one_more_text}
use Rattle.session.proofs.conversation.local_answers.text_columns.Goals as goal

pub loop-name-preserved : goal.loop-name-preserved
loop-name-preserved c =
    let i = c.loop-name.name-index in
    let names = c.args.names.now in
    let name = c.in_ok-name.name in
    let is = sym (c.in_ok-name.ensures ∙ c.as_slice.ensures ∙ c.name-item.is) in
    let more : take (i + 1) names ≡ take i names ++ name ∷ [] =
    take_more names i c.name-item.result (omega arith) ∙ ap (λ (n : List ℕ). take i names ++ n ∷ []) is in
    rw (more, c.in_ok-push.ensures.ok) (one_more_text (take i names) c.loop-name.columns name c.text_column.result c.loop-name.invariant c.text_column.ensures)
