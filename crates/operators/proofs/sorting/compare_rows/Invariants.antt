use Rattle.std.proofs.Common.{◌≡◌, drop}
use Rattle.operators.specs.Orders.{row_cmp}
use Rattle.operators.proofs.sorting.compare_rows.Given as goal

-- the keys so far don't decide
abbrev pub invariant-loop-key : goal.invariant-loop-key
invariant-loop-key l = row_cmp (drop l.key-index l.keys) l.a l.b ≡ row_cmp l.keys l.a l.b
