use Rattle.std.proofs.Common.{◌≡◌, ◌++◌, List, length}
use Rattle.std.specs.List.{AllZip}
use Rattle.std.specs.Vec.Iter.{into_iter_items, into_iter_len}
use Rattle.shard_calls.specs.inner.Scatter.{IsFinishOf}
use Rattle.shard_calls.proofs.scatter.read_in_turn.Given as goal

-- the looks so far, each with its reading, with those still to come, are all
abbrev pub invariant-loop-job : goal.invariant-loop-job
invariant-loop-job g l =
    record {
      read : (xs : List _) × (xs ++ into_iter_items l.job-iterator ≡ l.fn.looked.items)
          × AllZip (λ job d. IsFinishOf g.W.World.opening (record { slot = job.slot; query = job.query; pass = job.pass; begun = job.begun })
          (record { slot = d.slot; pass = d.pass; outcome = d.outcome })) xs l.done.items;
      long : into_iter_len l.job-iterator ≡ length (into_iter_items l.job-iterator);
    }
