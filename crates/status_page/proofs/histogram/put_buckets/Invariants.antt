use Rattle.std.proofs.Common.{◌≡◌, ◌++◌}
use Rattle.status_page.specs.Texts.{first_lines}
use Rattle.status_page.specs.Metrics.{bucket_line}
use Rattle.status_page.proofs.histogram.put_buckets.Given as goal

abbrev pub invariant-loop-bucket : goal.invariant-loop-bucket
invariant-loop-bucket l = l.out.items ≡ l.fn.out.items ++ first_lines (bucket_line l.totals l.kind) l.bucket
