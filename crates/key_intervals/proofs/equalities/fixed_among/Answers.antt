use Rattle.key_intervals.proofs.FixedLemmas.{listed}
use Rattle.key_intervals.proofs.equalities.fixed_among.Goals as goal

pub returns-in-Column : goal.returns-in-Column
returns-in-Column c = λ row h.
    listed row c.args.a.now c.in-Column.ordinal c.args.column c.args.members.now c.in-Column.is c.if-ordinal-column.true h
