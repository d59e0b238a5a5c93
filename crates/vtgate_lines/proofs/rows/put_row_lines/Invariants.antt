use Rattle.std.proofs.Common.{◌≡◌, ◌++◌, drop}
use Rattle.std.specs.Prelude.{flat_map}
use Rattle.vtgate_lines.specs.Printed.{line, printed_row}
use Rattle.vtgate_lines.proofs.rows.put_row_lines.Given as goal

abbrev pub invariant-loop-row : goal.invariant-loop-row
invariant-loop-row l =
    l.out.items ++ flat_map (λ row. line (printed_row row)) (drop l.row-index l.rows) ≡ l.fn.out.items ++ flat_map (λ row. line (printed_row row)) l.rows
