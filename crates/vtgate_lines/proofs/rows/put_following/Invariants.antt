use Rattle.std.proofs.Common.{◌≡◌, ◌++◌, drop, map}
use Rattle.std.specs.Prelude.{codes}
use Rattle.sql_tree.specs.Printing.{following}
use Rattle.vtgate_lines.specs.Printed.{printed_value}
use Rattle.vtgate_lines.proofs.rows.put_following.Given as goal

abbrev pub invariant-loop-value : goal.invariant-loop-value
invariant-loop-value l =
    l.out.items ++ following (codes "|") (map printed_value (drop l.value-index l.values)) ≡ l.fn.out.items ++ following (codes "|") (map printed_value l.values)
