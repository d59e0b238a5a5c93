use Rattle.prepared_statements.specs.Held as h
use Rattle.prepared_statements.proofs.HeldLaws.{runs, uses, none_named, not_run, was_too_large}
use Rattle.prepared_statements.proofs.held.Held.execute.Goals as goal

pub returns-in_default-clause-err : goal.returns-in_default-clause-err
returns-in_default-clause-err c = h.none (λ n rest q lt is there. c.in_default.ensures.only n rest lt is)

pub returns-in_default-place_of-clause-err : goal.returns-in_default-place_of-clause-err
returns-in_default-place_of-clause-err c =
    h.none (none_named c.args.self.now c.args.bytes.now c.in-Some.number c.in-Some.rest.now c.in-Some.ensures.only (c.place_of.ensures.none c.in_default-place_of.is))

pub returns-in-Ok-clause-ok : goal.returns-in-Ok-clause-ok
returns-in-Ok-clause-ok c =
    let f = c.in-Some-place_of.ensures.some.1 in
    runs c.args.self.now c.args.bytes.now c.execute_at.new.self c.in-Some.rest.now c.in-Ok.field-0.text.items c.in-Some.number c.in-Some-place_of.place f.0 c.in-Ok.field-0.types
    c.in-Some.ensures.below c.in-Some.ensures.found f.1 (c.in-Ok.ensures.found c.in-Some.number f.0 f.1) (c.execute_at.ensures c.in-Some.number f.0 f.1)

pub returns-in-Err-clause-err : goal.returns-in-Err-clause-err
returns-in-Err-clause-err c =
    let f = c.in-Some-place_of.ensures.some.1 in
    uses c.args.self.now c.args.bytes.now c.reset_at.new.self c.in-Some.rest.now c.in-Some.number c.in-Some-place_of.place f.0 c.in-Some.ensures.below c.in-Some.ensures.found f.1
    (c.reset_at.ensures c.in-Some.number f.0 f.1)

pub returns-in-Err-clause-refused : goal.returns-in-Err-clause-refused
returns-in-Err-clause-refused c = λ known text then r.
    let f = c.in-Some-place_of.ensures.some.1 in
    not_run c.args.self.now then c.args.bytes.now c.in-Some.rest.now text c.in-Some.number c.in-Some-place_of.place f.0 c.in-Some.ensures.only f.1
    (c.in-Err.ensures.refused known c.in-Some.number f.0 f.1) r

pub returns-in-Err-clause-large : goal.returns-in-Err-clause-large
returns-in-Err-clause-large c = λ is.
    let f = c.in-Some-place_of.ensures.some.1 in
    was_too_large c.args.self.now c.args.bytes.now c.in-Some.rest.now c.in-Some.number c.in-Some-place_of.place f.0 c.in-Some.ensures.below c.in-Some.ensures.found f.1
    (c.in-Err.ensures.large is c.in-Some.number f.0 f.1)
