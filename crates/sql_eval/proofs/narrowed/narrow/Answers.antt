use Rattle.std.proofs.Common.{◌≡◌, ◌∙◌, Some, ap, sym, map, slice_get}
use Rattle.sql_eval.specs.Narrowing.{distinct_items}
use Rattle.sql_eval.proofs.NarrowLemmas.{shown_whole}
use Rattle.sql_eval.proofs.narrowed.narrow.Goals as goal

pub returns-in-Some-clause-shows : goal.returns-in-Some-clause-shows
returns-in-Some-clause-shows c =
    let distinct : c.in-Some.items ≡ distinct_items c.args.query.now.items = (rw c.in-Some.is at c.in_ok-different.ensures.items) ∙ ap distinct_items c.as_slice-2.ensures in
    shown_whole c.args.query.now c.in-Some.ordinals
    (ap (λ l. map (slice_get l) c.in-Some.ordinals) (sym distinct) ∙ (rw c.in-Some.is at c.in_ok-different.ensures.ordinals) ∙ ap (map Some) c.as_slice-2.ensures)
