use Rattle.std.proofs.Common.{◌≡◌, None, ap, sym, subst, ◌∙◌, ℕ, ◌-◌, ◌<◌, List, length, arith}
use Rattle.prepared_statements.specs.declared.held.Numbered.{Numbered}
use Rattle.prepared_statements.specs.Held.{HeldStatements, held_without, held_at, found_in, closed_in, size_of}
use Rattle.prepared_statements.specs.inner.Keeping.{IsFirst, AreKept}
use Rattle.prepared_statements.proofs.Places.{kept_removed, first_removed, gone}
use Rattle.prepared_statements.proofs.held.Held.give_up_at.Goals as goal

pub invariant_of-self : goal.invariant_of-self
invariant_of-self c =
    let within : c.args.place < length c.self.inside.statements.items = omega (arith, c.requires, ap (λ (v : HeldStatements). length v.statements) c.self.view_is) in
    subst (λ (l : List Numbered). AreKept c.left_after-self-inside.result (c.self.inside.long - c.size.result) c.self.inside.last l) (sym c.remove-given_up.ensures.items)
    (kept_removed c.self.inside.size c.self.inside.long c.left_after-self-inside.result (c.self.inside.long - c.size.result) c.self.inside.last c.self.inside.statements.items
    c.args.place c.remove-given_up.result within c.remove-given_up.ensures.value
    (c.left_after-self-inside.ensures ∙ ap (λ (ps : List (List ℕ)). c.self.inside.size - size_of ps) c.as_slice.ensures) (ap (λ (m : ℕ). c.self.inside.long - m) c.size.ensures)
    c.self.invariant)

pub returns-clause-closes : goal.returns-clause-closes
returns-clause-closes c = λ n s first.
    let there = subst (λ (v : HeldStatements). IsFirst n v.statements c.args.place s) (sym c.self.view_is) first in
    ap (λ (l : List Numbered). record c.args.self.now { last = c.self.inside.last; statements = l })
    (c.remove-given_up.ensures.items ∙ first_removed n c.self.inside.statements.items c.args.place s there) ∙ ap (λ (v : HeldStatements). held_without v n) c.self.view_is

pub returns-clause-gone : goal.returns-clause-gone
returns-clause-gone c = λ n s first.
    let there = subst (λ (v : HeldStatements). IsFirst n v.statements c.args.place s) (sym c.self.view_is) first in
    ap (λ (l : List Numbered). found_in l n) (c.remove-given_up.ensures.items ∙ first_removed n c.self.inside.statements.items c.args.place s there)
    ∙ gone n 0 c.self.inside.last c.self.inside.statements.items c.self.invariant.grow
