use Rattle.std.proofs.Common.{sym, refl, ◌∙◌}
use Rattle.sql_eval.proofs.AnswerLemmas.{answered, groups_answered}
use Rattle.sql_eval.proofs.queries.select_from.Goals as goal

pub returns-then-is_aggregated : goal.returns-then-is_aggregated
returns-then-is_aggregated g c =
    record { ok = groups_answered c.args.query.now (g.S.RowSource.to_come c.args.rows) _ _ (sym c.is_aggregated.ensures ∙ c.if-is_aggregated.true) refl c.select_groups.ensures.ok }

pub returns-else-is_aggregated : goal.returns-else-is_aggregated
returns-else-is_aggregated g c =
    record { ok = answered c.args.query.now (g.S.RowSource.to_come c.args.rows) _ _ (sym c.is_aggregated.ensures ∙ c.if-is_aggregated.false) refl c.select_rows.ensures.ok }
