use Rattle.std.proofs.Common.{rules}
use Rattle.key_intervals.proofs.SortedValues.{sorted_values}
use Rattle.key_intervals.proofs.listed.sort.Goals as goal

pub returns-clause-sorted : goal.returns-clause-sorted
returns-clause-sorted c = sorted_values _ c.in_ok-sort_by.ensures.sorted (λ a r q k. search rules)
