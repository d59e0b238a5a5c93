use Rattle.std.proofs.Common.{◌≡◌, ◌+◌, true}
use Rattle.crossbeam_queue.specs.Passes.{view, IsPassOf}
use Rattle.connection_workers.proofs.pool.fn.run_turns_in.scope.Given as goal

-- the pass may put, and so many others take
abbrev pub invariant-loop-started : goal.invariant-loop-started
invariant-loop-started g l = record {
  puts : (view l.pass).puts ≡ true;
  of : IsPassOf l.pool.queue l.pass;
  passes : (view l.pass).passes ≡ l.started + 1;
}
