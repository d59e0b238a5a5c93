use Rattle.std.proofs.Common.{sym, subst, List, IsPermutation, flat_map}
use Rattle.std.specs.List.Sorted.{IsSortedBy}
use Rattle.vt_value.specs.Values.{Row}
use Rattle.operators.specs.inner.Merges.{row_lt, all_merged}
use Rattle.operators.proofs.MergeLemmas.{of_all, all_sorted}
use Rattle.operators.proofs.FirstLemmas.{row_lt-order}
use Rattle.operators.proofs.merging.MergeSort.new.Goals as goal

pub returns-clause-permutation : goal.returns-clause-permutation
returns-clause-permutation g c =
    let lt = row_lt c.args.keys.now in
    let rows = g.O.Operator.to_come in
    subst (λ (lists : List (List Row)). IsPermutation (flat_map rows c.args.inputs.items) (all_merged lt lists)) (sym c.in_ok-heads_of.ensures.rows)
    (of_all lt rows c.args.inputs.items)

pub returns-clause-sorted : goal.returns-clause-sorted
returns-clause-sorted g c = λ sorted.
    (let lt = row_lt c.args.keys.now in
    subst (λ (lists : List (List Row)). IsSortedBy lt (all_merged lt lists)) (sym c.in_ok-heads_of.ensures.rows)
    (all_sorted lt (row_lt-order c.args.keys.now) g.O.Operator.to_come c.args.inputs.items sorted))
