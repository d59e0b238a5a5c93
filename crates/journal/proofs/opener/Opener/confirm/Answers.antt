use Rattle.std.proofs.Common.{refl}
use Rattle.journal.proofs.Public.{unopened}
use Rattle.journal.proofs.opener.Opener.confirm.Goals as goal

pub returns-clause-unopened : goal.returns-clause-unopened
returns-clause-unopened g c =
    rw (← c.self.view_is, ← c.pass.view_is)
    (unopened _ _ _ c.self.inside.next c.self.inside.seat.me c.pass.inside.seat.me.0 c.pass.inside.seat.me.0.seen c.self.invariant.1 refl c.compare.ensures.covered)
