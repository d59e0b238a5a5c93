use Rattle.std.proofs.Common.{◌∙◌, ◌∷◌, [], filter, sym, ap, subst, ◌<◌, ◌^◌, arith}
use Rattle.std.proofs.lemmas.Result.{IfOk-weaker}
use Rattle.aggregate.specs.Groups.{column_size}
use Rattle.sql_eval.specs.declared.groups.Grouping.{Grouping}
use Rattle.sql_eval.specs.Conditions.{is_kept}
use Rattle.sql_eval.specs.Grouping.{aggregates_of}
use Rattle.sql_eval.specs.inner.Totals.{totals_of}
use Rattle.sql_eval.proofs.Sums.{parts_summed}
use Rattle.sql_eval.proofs.Counted.{together_is}
use Rattle.sql_eval.proofs.queries.grouped.Goals as goal

pub joined-requires : goal.joined-requires
joined-requires g c =
    let q = c.args.query.now in
    let wide = ap (λ (it : Grouping). it.width) c.in_ok-grouping.ensures.ok in
    λ n le. subst (λ rows. column_size n rows < 2 ^ 127) (sym c.in_ok-parts.ensures.ok)
    (parts_summed q.group_by (aggregates_of q.items) (filter (is_kept q.filter) (g.S.RowSource.to_come c.args.rows)) c.requires n (omega (arith, wide, le)))

pub returns-then-are_together : goal.returns-then-are_together
returns-then-are_together g c =
    record {
      ok = (let q = c.args.query.now in
          let kept = filter (is_kept q.filter) (g.S.RowSource.to_come c.args.rows) in
          let aggregates = c.as_slice-aggregates.ensures ∙ ap (λ (it : Grouping). it.aggregates) c.in_ok-grouping.ensures.ok in
          IfOk-weaker c.together.result _ _
          (λ list is. is ∙ (λ i. totals_of (aggregates i) kept ∷ [])
          ∙ together_is q.group_by q.items kept (sym c.as_slice.ensures ∙ c.are_together.ensures c.if-are_together.true))
          c.together.ensures.ok);
    }
