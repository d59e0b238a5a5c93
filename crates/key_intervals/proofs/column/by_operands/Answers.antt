use Rattle.std.proofs.Common.{rules}
use Rattle.key_intervals.proofs.ColumnLemmas.{right_fits}
use Rattle.key_intervals.proofs.column.by_operands.Goals as goal

pub returns-in-Literal-Column : goal.returns-in-Literal-Column
returns-in-Literal-Column c = λ row h.
    let fits = right_fits row c.args.operator c.args.a.now c.args.b.now c.in-Literal-Column.ordinal c.args.column c.in-Literal-Column.value c.in-Literal-Column.is-0
    c.in-Literal-Column.is-1 c.if-ordinal-column-2.true h in
    search rules
