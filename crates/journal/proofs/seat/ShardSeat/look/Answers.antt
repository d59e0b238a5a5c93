use Rattle.std.proofs.Common.{sym, ap, ◌∙◌}
use Rattle.std.proofs.lemmas.List.Sums.{length-filter}
use Rattle.journal.specs.Runs.{on_slot}
use Rattle.journal.proofs.Public.{is_later, looked_pass}
use Rattle.journal.proofs.seat.ShardSeat.look.Goals as goal

pub returns-clause-seen : goal.returns-clause-seen
returns-clause-seen g c =
    let r = c.look.ensures.seen in
    rw (← c.self.view_is, ← c.pass.view_is, ap (λ m. m.0.seen) r.1)
    (is_later _ _ _ c.self.inside.slot c.pass.inside.statements c.pass.inside.number c.self.inside.seat.me c.pass.inside.seat.me r.0
    c.self.invariant.1 c.pass.invariant.1 r.3 r.4)

pub returns-clause-count : goal.returns-clause-count
returns-clause-count g c =
    let r = c.look.ensures.seen in
    rw (← c.self.view_is, ap (λ m. m.0.seen) r.1) (r.5 ∙ sym (length-filter (on_slot g.L.Law.slot_of c.self.inside.slot) r.0))

pub invariant_of-pass : goal.invariant_of-pass
invariant_of-pass g c =
    let r = c.look.ensures.seen in (
      c.look.ensures.table.1,
      looked_pass _ _ _ c.pass.inside.statements c.self.inside.seat.me.0.slot_from c.pass.inside.number c.pass.inside.seat.me c.look.new.pass.me r.0 r.2 c.pass.invariant.1 r.4,
    )
