use Rattle.std.proofs.Common.{ap}
use Rattle.journal.proofs.Public.{fresh_of, opened_pass}
use Rattle.journal.proofs.opener.Opener.open.Goals as goal

pub returns-clause-fresh : goal.returns-clause-fresh
returns-clause-fresh g c =
    let o = c.open-seat.ensures.seat in
    rw (← c.self.view_is, ap (λ m. m.0.seen) o.0)
    (fresh_of _ _ _ c.self.inside.next c.self.inside.seat.me.0 c.pass.inside.seat.me.0.seen c.self.invariant.1.blank c.self.invariant.1.sessions.0 o.1)

pub invariant_of-result : goal.invariant_of-result
invariant_of-result g c =
    let o = c.open-seat.ensures.seat in (
      c.open-seat.ensures.table.2,
      opened_pass _ _ _ c.self.inside.next c.self.inside.seat.me.0 c.open-seat.result.me c.pass.inside.seat.me.0.seen c.self.invariant.1.blank c.self.invariant.1.sessions.0 o.0 o.1,
    )
