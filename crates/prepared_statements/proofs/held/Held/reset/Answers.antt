use Rattle.prepared_statements.proofs.HeldLaws.{resets, not_reset}
use Rattle.prepared_statements.proofs.held.Held.reset.Goals as goal

pub returns-in_default-place_of-clause-unknown : goal.returns-in_default-place_of-clause-unknown
returns-in_default-place_of-clause-unknown c = λ is then r.
    not_reset c.args.self.now then c.args.bytes.now c.in-Some.number c.only_number.result c.in-Some.is c.only_number.ensures.only (c.place_of.ensures.none c.in_default-place_of.is) r

pub returns-clause-reset : goal.returns-clause-reset
returns-clause-reset c = λ is.
    let f = c.in-Some-place_of.ensures.some.1 in
    resets c.args.self.now c.args.bytes.now c.reset_at.new.self c.in-Some.number c.in-Some-place_of.place f.0 c.in-Some.ensures.below c.in-Some.ensures.found f.1
    (c.reset_at.ensures c.in-Some.number f.0 f.1)
