use Rattle.statement_values.proofs.Bindings.{kept_hold, anew_hold, anew_only}
use Rattle.statement_values.proofs.execution.held_types.Goals as goal

pub returns-in_ok-types-in-Some-eq0-default-clause-found :
    goal.returns-in_ok-types-in-Some-eq0-default-clause-found
returns-in_ok-types-in-Some-eq0-default-clause-found c =
    kept_hold c.args.kept.now c.in_ok-types-in-Some-eq0-default.types c.args.holes c.in-Some-eq0-default.field-0-0 c.args.bytes.now c.in-Some-eq0-default.rest.now
    c.in-Some-eq0-default.ensures.some c.in-Some-eq0-default.field-0-0-test c.in_ok-types-in-Some-eq0-default.ensures

pub returns-in_ok-types-in-Some-eq1-default-clause-found :
    goal.returns-in_ok-types-in-Some-eq1-default-clause-found
returns-in_ok-types-in-Some-eq1-default-clause-found c =
    anew_hold c.args.kept.now c.in_ok-types-in-Some-eq1-default.types c.args.holes c.in-Some-eq1-default.field-0-0 c.args.bytes.now c.in-Some-eq1-default.told.now
    c.in_ok-types-in-Some-eq1-default.rest.now
    c.in-Some-eq1-default.ensures.some c.in-Some-eq1-default.field-0-0-test c.in_ok-types-in-Some-eq1-default.ensures.found

pub returns-in_ok-types-in-Some-eq1-default-clause-only :
    goal.returns-in_ok-types-in-Some-eq1-default-clause-only
returns-in_ok-types-in-Some-eq1-default-clause-only c = λ types rest h.
    c.in_ok-types-in-Some-eq1-default.ensures.only types rest
    (anew_only c.args.kept.now types c.args.holes c.in-Some-eq1-default.field-0-0 c.args.bytes.now c.in-Some-eq1-default.told.now rest
    c.in-Some-eq1-default.ensures.some c.in-Some-eq1-default.field-0-0-test h)
