use Rattle.std.proofs.Common.{refl}
use Rattle.sql_eval.proofs.AnswerLemmas.{answered}
use Rattle.sql_eval.proofs.queries.select_in_order.Goals as goal

pub returns : goal.returns
returns g c = record { ok = answered c.args.query.now (g.S.RowSource.to_come c.args.rows) _ _ c.requires.plain refl c.select_sorted.ensures.ok }
