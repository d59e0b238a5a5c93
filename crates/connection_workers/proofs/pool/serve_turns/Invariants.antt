use Rattle.std.proofs.Common.{◌≡◌, true}
use Rattle.crossbeam_queue.specs.Passes.{view, IsPassOf}
use Rattle.connection_workers.proofs.Letting.{Begun}
use Rattle.connection_workers.proofs.pool.serve_turns.Given as goal

-- the pass may take, and of each connection that it took so far the conversation was begun
abbrev pub invariant-loop : goal.invariant-loop
invariant-loop g l = record {
  takes : (view l.pass).takes ≡ true;
  of : IsPassOf l.pool.queue l.pass;
  begun : Begun (λ x. (conversation : _) × g.B.Fn.post l.begin (x, tt) conversation) (view l.fn.pass).own (view l.pass).own;
  next : (goal.iterator-loop g).can_next l.iterator' × (goal.iterator-loop g).is_finite l.iterator';
}
