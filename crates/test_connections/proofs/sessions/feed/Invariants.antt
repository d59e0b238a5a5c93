use Rattle.std.proofs.Common.{IsSome}
use Rattle.vtgate_serve.specs.Pendings.{IsOf}
use Rattle.test_connections.proofs.sessions.feed.Given as goal

-- the pass is a session's, and what the session keeps is of it
abbrev pub invariant-loop-piece : goal.invariant-loop-piece
invariant-loop-piece g l = IsSome l.pass.session × IsOf g.W.World.opening l.core.tx l.pass
