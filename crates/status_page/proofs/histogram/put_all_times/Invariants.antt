use Rattle.std.proofs.Common.{◌≡◌, ◌++◌, drop}
use Rattle.std.specs.Prelude.{flat_map}
use Rattle.status_page.specs.Metrics.{kind_times}
use Rattle.status_page.proofs.histogram.put_all_times.Given as goal

abbrev pub invariant-loop-kind : goal.invariant-loop-kind
invariant-loop-kind l =
    l.out.items ++ flat_map (kind_times l.totals) (drop l.kind-index l.kinds) ≡ l.fn.out.items ++ flat_map (kind_times l.totals) l.kinds
