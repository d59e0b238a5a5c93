use Rattle.std.proofs.Common.{◌∙◌, ◌∷◌, [], ap, sym, filter}
use Rattle.std.proofs.lemmas.Result.{IfOk-weaker}
use Rattle.sql_eval.specs.Conditions.{is_kept}
use Rattle.sql_eval.proofs.Counted.{counted_is}
use Rattle.sql_eval.proofs.queries.together.Goals as goal

pub returns-then-are_count_rows : goal.returns-then-are_count_rows
returns-then-are_count_rows g c =
    let kept = filter (is_kept c.args.condition.now) (g.S.RowSource.to_come c.args.rows) in
    record {
      ok = IfOk-weaker c.counted.result _ _
          (λ list is. is ∙ ap (λ row. row ∷ []) (counted_is c.args.aggregates.now kept (sym c.are_count_rows.ensures ∙ c.if-are_count_rows.true)))
          c.counted.ensures.ok;
    }
