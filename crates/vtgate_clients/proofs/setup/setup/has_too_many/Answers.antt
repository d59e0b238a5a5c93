use Rattle.std.proofs.Common.{arith, sym, ◌∙◌}
use Rattle.vtgate_clients.proofs.setup.Fits.{one_more_fits, sharded_fits}
use Rattle.vtgate_clients.proofs.setup.setup.has_too_many.Goals as goal

pub returns-then-ranges-lt-MOST_RANGES-clause-few : goal.returns-then-ranges-lt-MOST_RANGES-clause-few
returns-then-ranges-lt-MOST_RANGES-clause-few c = λ none few.
    let below = c.if-ranges-lt-MOST_RANGES.true in one_more_fits c.args.schema.now c.args.ranges.now (omega (arith, below))

pub returns-clause-few : goal.returns-clause-few
returns-clause-few c = λ none few. sharded_fits c.args.schema.now c.args.ranges.now (sym c.has_unsharded.ensures ∙ none) few
