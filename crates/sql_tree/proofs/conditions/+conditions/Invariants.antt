use Rattle.std.proofs.Common.{◌≡◌, ◌++◌, take, map}
use Rattle.std.specs.Prelude.{codes}
use Rattle.sql_tree.specs.Printing.{joined, condition_printed, inside_and, inside_or}
use Rattle.sql_tree.proofs.conditions.+conditions.Given as goal

abbrev pub invariant-put_and-loop-i : goal.invariant-put_and-loop-i
invariant-put_and-loop-i l = l.out.items ≡ l.fn.out.items ++ joined (codes " AND ") (map inside_and (map condition_printed (take l.i l.members)))

abbrev pub invariant-put_or-loop-i : goal.invariant-put_or-loop-i
invariant-put_or-loop-i l = l.out.items ≡ l.fn.out.items ++ joined (codes " OR ") (map inside_or (map condition_printed (take l.i l.members)))
