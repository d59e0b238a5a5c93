use Rattle.std.proofs.Common.{length, ap, sym, ◌∙◌}
use Rattle.sql_eval.proofs.NarrowLemmas.{as_many}
use Rattle.sql_eval.proofs.narrowed.different.Goals as goal

pub returns-then-len-items-clause-all : goal.returns-then-len-items-clause-all
returns-then-len-items-clause-all c =
    as_many c.args.items.now (ap length (sym c.in_ok-seen.ensures.ok.distinct) ∙ sym c.len.ensures ∙ c.if-len-items.true)
