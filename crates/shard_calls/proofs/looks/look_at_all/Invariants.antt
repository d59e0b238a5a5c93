use Rattle.std.proofs.Common.{◌≡◌, ◌++◌, List, length}
use Rattle.std.specs.List.{AllZip}
use Rattle.std.specs.Vec.Iter.{into_iter_items, into_iter_len}
use Rattle.shard.specs.Seats.{place_at}
use Rattle.shard_calls.specs.inner.Scatter.{IsLookFor}
use Rattle.shard_calls.proofs.looks.look_at_all.Given as goal

-- the jobs so far, each with its look, with those still to come, are all
abbrev pub invariant-loop-job : goal.invariant-loop-job
invariant-loop-job g l =
    record {
      looked : (xs : List _) × (xs ++ into_iter_items l.job-iterator ≡ l.fn.jobs.items)
          × AllZip (λ job r. IsLookFor g.W.World.opening (record { slot = job.shard.now.0; place = place_at job.shard.now; query = job.query; pass = job.pass })
          (record { slot = r.slot; query = r.query; pass = r.pass; begun = r.begun })) xs l.looked.items;
      long : into_iter_len l.job-iterator ≡ length (into_iter_items l.job-iterator);
    }
