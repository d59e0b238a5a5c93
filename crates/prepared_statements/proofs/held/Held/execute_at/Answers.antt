use Rattle.std.proofs.Common.{ap, sym, subst, ◌∙◌, ℕ, length, arith}
use Rattle.prepared_statements.specs.declared.held.Prepared.{Prepared}
use Rattle.prepared_statements.specs.declared.held.Numbered.{Numbered}
use Rattle.prepared_statements.specs.Held.{HeldStatements, held_with, after_execution}
use Rattle.prepared_statements.specs.Holes.{all_long}
use Rattle.prepared_statements.specs.inner.Keeping.{IsFirst}
use Rattle.prepared_statements.proofs.HoleLaws.{none_long}
use Rattle.prepared_statements.proofs.Places.{kept_cleared, set_is, first_is}
use Rattle.prepared_statements.proofs.held.Held.execute_at.Goals as goal

pub invariant_of-self : goal.invariant_of-self
invariant_of-self c =
    kept_cleared c.self.inside.size c.self.inside.long c.self.inside.last c.size.result c.self.inside.statements.items c.args.place c.index_mut.result.now c.execute.new.held
    (omega (arith, c.requires, ap (λ (v : HeldStatements). length v.statements) c.self.view_is)) c.index_mut.ensures.value (ap (λ (q : Prepared). q.pieces) c.execute.ensures)
    (ap (λ (q : Prepared). all_long q.long) c.execute.ensures ∙ none_long c.index_mut.result.now.statement.long) c.size.ensures c.self.invariant

pub returns : goal.returns
returns c = λ n s first.
    let now : HeldStatements = record { last = c.self.inside.last; statements = c.self.inside.statements.items } in
    let there = subst (λ (v : HeldStatements). IsFirst n v.statements c.args.place s) (sym c.self.view_is) first in
    let same = first_is n now.statements c.args.place s c.index_mut.result.now there c.index_mut.ensures.value in
    set_is now n c.args.place s c.index_mut.result.now c.execute.new.held there c.index_mut.ensures.value
    ∙ ap (λ (v : HeldStatements). held_with v n c.execute.new.held) c.self.view_is
    ∙ ap (λ (q : Prepared). held_with c.args.self.now n q) (c.execute.ensures ∙ ap (λ (t : Numbered). after_execution t.statement c.args.types) same)
