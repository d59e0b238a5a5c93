use Rattle.std.proofs.Common.{ap, sym, subst, ◌∙◌, ℕ, ◌-◌, length, arith}
use Rattle.prepared_statements.specs.declared.held.Prepared.{Prepared}
use Rattle.prepared_statements.specs.declared.held.Numbered.{Numbered}
use Rattle.prepared_statements.specs.Held.{HeldStatements, held_with, held_long, max_size, TakesLong}
use Rattle.prepared_statements.specs.inner.Keeping.{IsFirst}
use Rattle.prepared_statements.proofs.Places.{kept_taken, set_is, first_is}
use Rattle.prepared_statements.proofs.held.Held.take_at.Goals as goal

pub invariant_of-self : goal.invariant_of-self
invariant_of-self c =
    kept_taken c.self.inside.size c.self.inside.long c.self.inside.last c.size.result c.size-2.result c.self.inside.statements.items c.args.place c.index_mut.result.now c.take.new.held
    (omega (arith, c.requires, ap (λ (v : HeldStatements). length v.statements) c.self.view_is)) c.index_mut.ensures.value c.take.ensures.pieces c.size-2.ensures c.size.ensures
    c.self.invariant

pub returns : goal.returns
returns c = λ n s first.
    let now : HeldStatements = record { last = c.self.inside.last; statements = c.self.inside.statements.items } in
    let there = subst (λ (v : HeldStatements). IsFirst n v.statements c.args.place s) (sym c.self.view_is) first in
    let same = first_is n now.statements c.args.place s c.index_mut.result.now there c.index_mut.ensures.value in
    let room = c.saturating_sub-room.ensures ∙ ap (λ (m : ℕ). max_size - m) (c.self.invariant.longs ∙ ap held_long c.self.view_is) in (
      c.take.new.held,
      set_is now n c.args.place s c.index_mut.result.now c.take.new.held there c.index_mut.ensures.value
          ∙ ap (λ (v : HeldStatements). held_with v n c.take.new.held) c.self.view_is,
      subst (λ (m : ℕ). TakesLong m s.statement c.args.bytes.now c.take.new.held) room
          (subst (λ (t : Numbered). TakesLong c.saturating_sub-room.result t.statement c.args.bytes.now c.take.new.held) same c.take.ensures.takes),
    )
