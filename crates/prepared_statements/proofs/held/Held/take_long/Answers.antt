use Rattle.prepared_statements.specs.Held as h
use Rattle.prepared_statements.proofs.HeldLaws.{takes_long, none_named}
use Rattle.prepared_statements.proofs.held.Held.take_long.Goals as goal

pub returns-in_default : goal.returns-in_default
returns-in_default c = h.none (λ n rest q lt is there. c.in_default.ensures.only n rest lt is)

pub returns-in-Some-place_of : goal.returns-in-Some-place_of
returns-in-Some-place_of c =
    let f = c.in-Some-place_of.ensures.some.1 in
    takes_long c.args.self.now c.args.bytes.now c.take_at.new.self c.in-Some.rest.now c.in-Some.number c.in-Some-place_of.place f.0 c.in-Some.ensures.below c.in-Some.ensures.found f.1
    (c.take_at.ensures c.in-Some.number f.0 f.1)

pub returns-in_default-place_of : goal.returns-in_default-place_of
returns-in_default-place_of c =
    h.none (none_named c.args.self.now c.args.bytes.now c.in-Some.number c.in-Some.rest.now c.in-Some.ensures.only (c.place_of.ensures.none c.in_default-place_of.is))
