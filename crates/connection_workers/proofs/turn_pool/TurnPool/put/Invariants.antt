use Rattle.std.proofs.Common.{◌≡◌}
use Rattle.crossbeam_queue.specs.Passes.{view, IsPassOf}
use Rattle.connection_workers.proofs.turn_pool.TurnPool.put.Given as goal

-- the job waits, and nothing was put
abbrev pub invariant-loop : goal.invariant-loop
invariant-loop g l =
    (l.waiting ≡ l.fn.job) × (view l.pass ≡ view l.fn.pass) × IsPassOf l.self.queue l.pass
    × (goal.iterator-loop g).can_next l.iterator' × (goal.iterator-loop g).is_finite l.iterator'
