use Rattle.std.proofs.Common.{ap}
use Rattle.journal.proofs.Public.{is_longer, seen_pass, absorbed_pass}
use Rattle.journal.proofs.pass.Pass.take_in.Goals as goal

pub returns-clause-seen : goal.returns-clause-seen
returns-clause-seen g c =
    let r = c.meet.ensures.seen in
    rw (← c.self.view_is, ← c.other.view_is, ap (λ m. m.0.seen) c.absorb.ensures.looks, ap (λ m. m.0.seen) r.1)
    (is_longer _ _ _ c.self.inside.statements c.other.inside.statements c.self.inside.number c.other.inside.number c.self.inside.seat.me
    c.other.inside.seat.me r.0 c.self.invariant.1 c.other.invariant.1 r.3 r.4 r.5)

pub invariant_of-self : goal.invariant_of-self
invariant_of-self g c =
    let r = c.meet.ensures.seen in
    let met = seen_pass _ _ _ c.self.inside.statements c.self.inside.number c.self.inside.seat.me c.meet.new.one.me r.0 r.1 c.self.invariant.1 r.3 in
    let absorbed = absorbed_pass g.L.Law.slot_of g.L.Law.commit_of g.L.Law.may_follow c.self.inside.statements c.self.inside.number in
    (c.absorb.ensures.table, absorbed _ c.meet.new.one.me c.absorb.new.seat.me c.absorb.ensures.looks met)
