use Rattle.shard_calls.specs.Pendings.{IsOf}
use Rattle.test_engine.proofs.soak.session.Session.steps.Given as goal

-- the transaction is still the pass's
abbrev pub invariant-loop : goal.invariant-loop
invariant-loop g l = IsOf g.W.World.opening l.tx l.self.pass
