use Rattle.std.proofs.Common.{refl}
use Rattle.journal.proofs.Public.{own_confirmed}
use Rattle.journal.proofs.pass.Pass.confirm.Goals as goal

pub returns-clause-either : goal.returns-clause-either
returns-clause-either g c = rw (← c.self.view_is, ← c.other.view_is) (c.compare.ensures.covered.either)

pub returns-clause-own : goal.returns-clause-own
returns-clause-own g c =
    rw (← c.self.view_is, ← c.other.view_is)
    (own_confirmed _ _ _ c.self.inside.statements c.self.inside.number c.self.inside.seat.me c.other.inside.seat.me.0 c.self.inside.seat.me.0.seen
    c.other.inside.seat.me.0.seen c.self.invariant.1 refl refl c.compare.ensures.covered)
