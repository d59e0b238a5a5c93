use Rattle.std.proofs.Common.{◌≡◌, ◌≤◌, ℕ, Some, ap, sym, subst}
use Rattle.journal.proofs.Public.{is_later, is_entitled_of, room_of, appended_pass}
use Rattle.journal.proofs.seat.ShardSeat.append.Goals as goal

pub append-requires-clause-count : goal.append-requires-clause-count
append-requires-clause-count g c κs l =
    room_of g.L.Law.slot_of g.L.Law.commit_of g.L.Law.may_follow
    c.self.inside.slot c.self.inside.seat.me c.args.self.now c.self.view_is c.requires.room

pub append-requires-clause-may : goal.append-requires-clause-may
append-requires-clause-may g c κs l =
    is_entitled_of _ _ _ c.self.inside.slot c.pass.inside.statements c.pass.inside.number c.args.entry.now c.self.inside.seat.me c.pass.inside.seat.me
    c.args.self.now c.args.pass.now c.self.view_is c.pass.view_is c.self.invariant.1 c.pass.invariant.1
    c.requires.slot c.requires.session c.requires.lawful

pub returns-clause-seen : goal.returns-clause-seen
returns-clause-seen g c =
    let r = c.append.ensures.seen in (
      r.0,
      rw (← c.self.view_is, ← c.pass.view_is) (is_later _ _ _ c.self.inside.slot c.pass.inside.statements c.pass.inside.number c.self.inside.seat.me c.pass.inside.seat.me r.0 c.self.invariant.1 c.pass.invariant.1 r.3 r.4),
      ap (λ m. m.0.seen) r.1,
    )

pub invariant_of-pass : goal.invariant_of-pass
invariant_of-pass g c =
    let r = c.append.ensures.seen in
    let low : (x : ℕ × ℕ) → g.L.Law.commit_of c.args.entry.now ≡ Some x → x.1 ≤ c.pass.inside.statements =
    λ x is. subst (λ (n : ℕ). x.1 ≤ n) (sym (ap (λ p. p.statements) c.pass.view_is)) (c.requires.session x is).1 in (
      c.append.ensures.table.1,
      appended_pass _ _ _ c.pass.inside.statements c.pass.inside.number c.args.entry.now c.pass.inside.seat.me c.append.new.pass.me r.0 r.2 c.pass.invariant.1 r.4 r.5 low,
    )
