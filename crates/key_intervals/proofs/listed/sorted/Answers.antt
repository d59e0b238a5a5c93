use Rattle.key_intervals.proofs.SortedValues.{same_values}
use Rattle.key_intervals.proofs.listed.sorted.Goals as goal

pub returns-in-Ok-clause-same : goal.returns-in-Ok-clause-same
returns-in-Ok-clause-same c = λ x.
    same_values c.in_ok-list.list.items c.sort.new.values.items c.args.values.now x c.sort.ensures.permutation c.in_ok-list.ensures.ok
