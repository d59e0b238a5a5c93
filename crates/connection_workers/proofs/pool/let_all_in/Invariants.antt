use Rattle.std.proofs.Common.{◌≡◌, true}
use Rattle.crossbeam_queue.specs.Passes.{view, IsPassOf}
use Rattle.connection_workers.proofs.Letting.{LetIn}
use Rattle.connection_workers.proofs.pool.let_all_in.Given as goal

-- what the entrance gave so far was put
abbrev pub invariant-loop : goal.invariant-loop
invariant-loop g l = record {
  puts : (view l.pass).puts ≡ true;
  of : IsPassOf l.pool.queue l.pass;
  let_in : LetIn g.E.ConnectionSource.gives l.fn.entrance l.entrance (view l.fn.pass).put (view l.pass).put;
  next : (goal.iterator-loop g).can_next l.iterator' × (goal.iterator-loop g).is_finite l.iterator';
}
