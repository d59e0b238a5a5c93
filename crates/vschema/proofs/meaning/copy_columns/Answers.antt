use Rattle.std.proofs.Common.{◌≡◌, ◌++◌, ◌∷◌, [], get_or, false, bytes_eq, ap, ◌∙◌, if◌then◌else◌, arith}
use Rattle.std.proofs.lemmas.Grind.{common_steps}
use Rattle.std.specs.List.{list_any}
use Rattle.vschema.proofs.ByName.{none_before}
use Rattle.vschema.proofs.meaning.copy_columns.Goals as goal

-- src/meaning.rt:32:5
pub loop-column-preserved : goal.loop-column-preserved
loop-column-preserved c =
    let columns = c.args.columns.now in
    let copied = c.loop-column.copied in
    let i = c.loop-column.column-index in
    let column = c.in_ok-copy_column.field-0 in
    let d = c.column-item.result in
    let same : column ≡ get_or columns i d = c.in_ok-copy_column.ensures.ok ∙ c.column-item.is in
    let fresh : list_any (λ e. bytes_eq column.name e.name) copied ≡ false =
    (λ j. list_any (λ e. bytes_eq (same j).name e.name) (c.loop-column.invariant j))
    ∙ none_before columns i d c.loop-column-test.true c.requires.once in
    let put : c.insert.new.self ≡ copied ++ column ∷ [] =
    c.in_ok-insert.ensures.columns ∙ ap (λ b. if b then copied else copied ++ column ∷ []) fresh in
    let before = c.loop-column.invariant in
    grind (arith, common_steps)
