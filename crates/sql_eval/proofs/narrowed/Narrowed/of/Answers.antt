use Rattle.sql_eval.proofs.NarrowLemmas.{narrowing}
use Rattle.sql_eval.proofs.narrowed.Narrowed.of.Goals as goal

pub invariant_of-result : goal.invariant_of-result
invariant_of-result c =
    narrowing c.args.query c.narrow.new.query c.in_ok-whole.whole c.in_ok-whole.ensures.query c.in_ok-whole.ensures.items c.in_ok-whole.ensures.shows
