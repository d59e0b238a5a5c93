use Rattle.key_intervals.proofs.FixedLemmas.{fixed_left}
use Rattle.key_intervals.proofs.equalities.fixed_by_operands.Goals as goal

pub returns-in-Column-Literal : goal.returns-in-Column-Literal
returns-in-Column-Literal c = λ row h.
    fixed_left row c.args.a.now c.args.b.now c.in-Column-Literal.ordinal c.args.column c.in-Column-Literal.value c.in-Column-Literal.is-0 c.in-Column-Literal.is-1
    c.if-ordinal-column.true h
