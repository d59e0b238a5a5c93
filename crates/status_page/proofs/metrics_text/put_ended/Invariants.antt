use Rattle.std.proofs.Common.{◌≡◌, ◌++◌, drop}
use Rattle.std.specs.Prelude.{flat_map}
use Rattle.status_page.specs.Metrics.{ended_line}
use Rattle.status_page.proofs.metrics_text.put_ended.Given as goal

abbrev pub invariant-loop-ending : goal.invariant-loop-ending
invariant-loop-ending l =
    l.out.items ++ flat_map (ended_line l.totals) (drop l.ending-index l.endings) ≡ l.fn.out.items ++ flat_map (ended_line l.totals) l.endings
