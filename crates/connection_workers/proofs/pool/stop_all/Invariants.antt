use Rattle.std.proofs.Common.{◌≡◌, ◌++◌, replicate, true}
use Rattle.crossbeam_queue.specs.Passes.{view, IsPassOf}
use Rattle.connection_workers.specs.declared.pool.Job.TheVariants.{Stop}
use Rattle.connection_workers.proofs.pool.stop_all.Given as goal

-- so many stops were put
abbrev pub invariant-loop : goal.invariant-loop
invariant-loop g l = record {
  puts : (view l.pass).puts ≡ true;
  of : IsPassOf l.pool.queue l.pass;
  stops : (view l.pass).put ≡ (view l.fn.pass).put ++ replicate l.counter Stop;
}
