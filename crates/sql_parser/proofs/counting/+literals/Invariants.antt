use Rattle.std.proofs.Common.{◌≡◌, ◌-◌, drop, map, sum}
use Rattle.sql_tree.specs.Literals.{condition_literals}
use Rattle.sql_parser.proofs.counting.+literals.Given as goal

abbrev pub invariant-left_after_all-loop-member : goal.invariant-left_after_all-loop-member
invariant-left_after_all-loop-member l =
    l.left - sum (map condition_literals (drop l.member-index l.members)) ≡ l.fn.left - sum (map condition_literals l.members)
