use Rattle.std.proofs.Common.{◌≡◌, ◌++◌, drop}
use Rattle.std.specs.Prelude.{flat_map}
use Rattle.status_page.specs.Metrics.{kind_line}
use Rattle.status_page.proofs.histogram.put_kind_counts.Given as goal

abbrev pub invariant-loop-kind : goal.invariant-loop-kind
invariant-loop-kind l =
    l.out.items ++ flat_map (kind_line l.totals) (drop l.kind-index l.kinds) ≡ l.fn.out.items ++ flat_map (kind_line l.totals) l.kinds
