use Rattle.std.proofs.Common.{◌≡◌, true}
use Rattle.crossbeam_queue.specs.Passes.{view, IsPassOf}
use Rattle.connection_workers.proofs.turn_pool.TurnPool.next_job.Given as goal

-- nothing was taken
abbrev pub invariant-loop : goal.invariant-loop
invariant-loop g l =
    (view l.pass ≡ view l.fn.pass) × IsPassOf l.self.queue l.pass × ((view l.pass).takes ≡ true)
    × (goal.iterator-loop g).can_next l.iterator' × (goal.iterator-loop g).is_finite l.iterator'
