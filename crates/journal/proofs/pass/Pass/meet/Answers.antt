use Rattle.std.proofs.Common.{ap}
use Rattle.journal.proofs.Public.{is_longer, seen_pass}
use Rattle.journal.proofs.pass.Pass.meet.Goals as goal

pub returns-clause-seen : goal.returns-clause-seen
returns-clause-seen g c =
    let r = c.meet.ensures.seen in
    rw (← c.self.view_is, ← c.other.view_is, ap (λ m. m.0.seen) r.1)
    (is_longer _ _ _ c.self.inside.statements c.other.inside.statements c.self.inside.number c.other.inside.number c.self.inside.seat.me
    c.other.inside.seat.me r.0 c.self.invariant.1 c.other.invariant.1 r.3 r.4 r.5)

pub invariant_of-self : goal.invariant_of-self
invariant_of-self g c =
    let r = c.meet.ensures.seen in
    (c.meet.ensures.table.0, seen_pass _ _ _ c.self.inside.statements c.self.inside.number c.self.inside.seat.me c.meet.new.one.me r.0 r.1 c.self.invariant.1 r.3)

pub invariant_of-other : goal.invariant_of-other
invariant_of-other g c =
    let r = c.meet.ensures.seen in (
      c.meet.ensures.table.1,
      seen_pass _ _ _ c.other.inside.statements c.other.inside.number c.other.inside.seat.me c.meet.new.other.me r.0 r.2 c.other.invariant.1 r.4,
    )
