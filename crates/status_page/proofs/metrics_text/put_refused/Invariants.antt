use Rattle.std.proofs.Common.{◌≡◌, ◌++◌}
use Rattle.status_page.specs.Texts.{first_lines}
use Rattle.status_page.specs.Metrics.{refusal_line}
use Rattle.status_page.proofs.metrics_text.put_refused.Given as goal

abbrev pub invariant-loop-place : goal.invariant-loop-place
invariant-loop-place l = l.out.items ≡ l.fn.out.items ++ first_lines (refusal_line l.totals) l.place
