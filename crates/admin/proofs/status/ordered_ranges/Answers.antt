use Rattle.std.proofs.Common.{rules}
use Rattle.vtgate_lines.proofs.Covers.{sorted_by_begins}
use Rattle.admin.proofs.status.ordered_ranges.Goals as goal

pub returns : goal.returns
returns g c = record {
  ok = (
    c.in_ok-ranges.ranges.items,
    c.in_ok-ranges.ensures.ok,
    c.sort_unstable_by.ensures.permutation,
    sorted_by_begins _ c.sort_unstable_by.ensures.sorted (λ a r q k. search rules),
  );
}
