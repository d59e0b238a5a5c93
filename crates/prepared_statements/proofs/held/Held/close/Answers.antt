use Rattle.std.proofs.Common.{◌≡◌, None, ap, sym, subst, ◌∙◌, ℕ, List}
use Rattle.prepared_statements.specs.declared.held.Numbered.{Numbered}
use Rattle.prepared_statements.specs.Held.{HeldStatements, held_at, ClosesHeld}
use Rattle.prepared_statements.specs.Held as h
use Rattle.prepared_statements.proofs.Places.{none_closed}
use Rattle.prepared_statements.proofs.HeldLaws.{closes, none_only, that_number}
use Rattle.prepared_statements.proofs.held.Held.close.Goals as goal

pub returns-in_default-clause-closes : goal.returns-in_default-clause-closes
returns-in_default-clause-closes c = h.none (none_only c.args.bytes.now c.only_number.result c.in_default.is c.only_number.ensures.only)

pub returns-in-Some-place_of-clause-closes : goal.returns-in-Some-place_of-clause-closes
returns-in-Some-place_of-clause-closes c =
    let f = c.in-Some-place_of.ensures.some.1 in
    closes c.args.self.now c.args.bytes.now c.give_up_at.new.self c.in-Some.number c.in-Some.ensures.below c.in-Some.ensures.found (c.give_up_at.ensures.closes c.in-Some.number f.0 f.1)

pub returns-in-Some-place_of-clause-gone : goal.returns-in-Some-place_of-clause-gone
returns-in-Some-place_of-clause-gone c = λ n lt is.
    let f = c.in-Some-place_of.ensures.some.1 in
    subst (λ (m : ℕ). held_at c.give_up_at.new.self m ≡ None) (that_number c.args.bytes.now c.only_number.result c.in-Some.number c.in-Some.is c.only_number.ensures.only n lt is)
    (c.give_up_at.ensures.gone c.in-Some.number f.0 f.1)

pub returns-in_default-place_of-clause-closes : goal.returns-in_default-place_of-clause-closes
returns-in_default-place_of-clause-closes c =
    closes c.args.self.now c.args.bytes.now c.args.self.now c.in-Some.number c.in-Some.ensures.below c.in-Some.ensures.found
    (ap (λ (l : List Numbered). record c.args.self.now { statements = l })
    (sym (none_closed c.in-Some.number c.args.self.now.statements (c.place_of.ensures.none c.in_default-place_of.is))))

pub returns-in_default-place_of-clause-gone : goal.returns-in_default-place_of-clause-gone
returns-in_default-place_of-clause-gone c = λ n lt is.
    subst (λ (m : ℕ). held_at c.args.self.now m ≡ None) (that_number c.args.bytes.now c.only_number.result c.in-Some.number c.in-Some.is c.only_number.ensures.only n lt is)
    (c.place_of.ensures.none c.in_default-place_of.is)
