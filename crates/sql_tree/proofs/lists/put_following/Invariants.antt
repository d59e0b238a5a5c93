use Rattle.std.proofs.Common.{◌≡◌, ◌++◌, drop, map}
use Rattle.std.specs.Prelude.{codes}
use Rattle.sql_tree.specs.Printing.{following}
use Rattle.sql_tree.proofs.lists.put_following.Given as goal

abbrev pub invariant-loop-item : goal.invariant-loop-item
invariant-loop-item g l =
    l.out.items ++ following (codes ", ") (map g.T.Print.text (drop l.item-index l.items)) ≡ l.fn.out.items ++ following (codes ", ") (map g.T.Print.text l.items)
