use Rattle.std.proofs.Common.{sym, ◌∙◌, ◌++◌, ◌∷◌, [], map, filter}
use Rattle.aggregate.specs.Slices.{columns_of}
use Rattle.aggregate.proofs.SliceLemmas.{drop_next}
use Rattle.sql_eval.specs.Conditions.{is_kept}
use Rattle.sql_eval.specs.Grouping.{shown_ordinal}
use Rattle.sql_eval.proofs.Firsts.{shown_more}
use Rattle.sql_eval.proofs.source.first_shown.Goals as goal

pub loop-preserved : goal.loop-preserved
loop-preserved g c =
    let all = filter (is_kept c.args.condition.now) (g.S.RowSource.to_come c.args.rows.now) in
    let left = filter (is_kept c.args.condition.now) (g.S.RowSource.to_come c.next_passing.new.rows) in
    let first = rw c.in-Some.is at c.next_passing.ensures in
    let at = sym c.loop.invariant.1 ∙ first in (
      c.in_ok-push.ensures.ok ∙ (λ i. c.loop.invariant.0 i ++ c.in_ok-shown_row.ensures.ok i ∷ [])
          ∙ sym (shown_more (columns_of (map shown_ordinal c.args.items.now)) all left c.in-Some.row.now c.loop.counter at),
      sym (drop_next all left c.in-Some.row.now c.loop.counter at),
    )
