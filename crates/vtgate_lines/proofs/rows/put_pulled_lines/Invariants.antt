use Rattle.std.proofs.Common.{◌≡◌, ◌++◌, length}
use Rattle.std.specs.Prelude.{flat_map}
use Rattle.vtgate_lines.specs.Printed.{line, printed_row}
use Rattle.vtgate_lines.proofs.rows.put_pulled_lines.Given as goal

-- the lines so far, with those of the rows that are still to come, are all
abbrev pub invariant-loop-row : goal.invariant-loop-row
invariant-loop-row g l =
    l.out.items ++ flat_map (λ row. line (printed_row row)) (g.O.Operator.to_come l.rows)
    ≡ l.fn.out.items ++ flat_map (λ row. line (printed_row row)) (g.O.Operator.to_come l.fn.rows)

abbrev pub decreases-loop-row : goal.decreases-loop-row
decreases-loop-row g l = length (g.O.Operator.to_come l.rows)
