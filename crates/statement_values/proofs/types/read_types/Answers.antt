use Rattle.std.proofs.Common.{sym, ◌∙◌}
use Rattle.statement_values.proofs.Bindings.{types_begin, types_told, types_short, types_foreign, types_all, foreign_left, foreign_end}
use Rattle.statement_values.proofs.types.read_types.Goals as goal

pub loop-rest-init : goal.loop-rest-init
loop-rest-init c = types_begin c.args.count c.args.bytes.now c.new-types.result c.new-types.ensures

pub returns-in_default-clause-only : goal.returns-in_default-clause-only
returns-in_default-clause-only c = λ types rest told.
    absurd (types_short c.args.count c.args.bytes.now c.loop-rest.rest.now rest c.loop-rest.types types c.loop-rest.invariant
    (rw c.len.ensures at c.loop-rest-test.true) (c.two_bytes.ensures.none c.in_default.is) told)

pub returns-in_default-type_named-clause-only : goal.returns-in_default-type_named-clause-only
returns-in_default-type_named-clause-only c = λ types rest told.
    absurd (types_foreign c.args.count c.args.bytes.now c.loop-rest.rest.now rest c.in-Some.more.now c.in-Some.named c.in-Some.flags c.loop-rest.types types
    c.loop-rest.invariant (rw c.len.ensures at c.loop-rest-test.true) c.in-Some.ensures.some (sym c.type_named.ensures ∙ c.in_default-type_named.is) told)

pub loop-rest-preserved : goal.loop-rest-preserved
loop-rest-preserved c =
    types_told c.args.count c.args.bytes.now c.loop-rest.rest.now c.in-Some.more.now c.in-Some.named c.in-Some.flags c.loop-rest.types c.push.new.self
    c.in-Some-type_named.kind c.loop-rest.invariant (rw c.len.ensures at c.loop-rest-test.true) c.in-Some.ensures.some
    (sym c.type_named.ensures ∙ c.in-Some-type_named.is) c.in_ok-push.ensures.ok

pub returns-clause-only : goal.returns-clause-only
returns-clause-only c = λ types rest told.
    types_all c.args.count c.args.bytes.now c.loop-rest.rest.now rest c.loop-rest.types types c.loop-rest.invariant
    (rw c.len.ensures at c.loop-rest-test.false) told

pub returns-in_default-clause-refused : goal.returns-in_default-clause-refused
returns-in_default-clause-refused c = λ f.
    absurd (foreign_left c.args.count c.args.bytes.now c.loop-rest.rest.now c.loop-rest.types c.loop-rest.invariant f (c.two_bytes.ensures.none c.in_default.is))

pub returns-clause-refused : goal.returns-clause-refused
returns-clause-refused c = λ f.
    foreign_end c.args.count c.args.bytes.now c.loop-rest.rest.now c.loop-rest.types c.loop-rest.invariant f (rw c.len.ensures at c.loop-rest-test.false)
