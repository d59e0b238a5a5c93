use Rattle.std.proofs.Common.{◌≡◌, ◌++◌, drop, map}
use Rattle.shard.specs.Seats.{place_at}
use Rattle.shard_calls.specs.inner.Scatter.{all_asked, AreConsecutive}
use Rattle.shard_calls.proofs.scatter.jobs.Given as goal

-- the jobs so far, with those still to come, are all
abbrev pub invariant-loop-part : goal.invariant-loop-part
invariant-loop-part g l =
    (l.pass ≡ l.fn.pass)
    × (map (λ job. record { slot = job.shard.now.0; place = place_at job.shard.now; query = job.query; pass = job.pass }) l.jobs.items
    ++ all_asked l.table l.plan l.fn.pass.seen (drop l.part-index l.parts)
    ≡ all_asked l.table l.plan l.fn.pass.seen l.parts)
    × AreConsecutive 0 (map (λ job. job.turn) l.jobs.items)
