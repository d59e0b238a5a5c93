-- Rows that are walked by their keys, and the order of sort keys.
use Rattle.std.specs.Prelude.{ℕ, List}
use Rattle.std.specs.declared.cmp.Ordering.{Ordering}
use Rattle.vt_value.specs.Values.{Row}
use Rattle.sql_tree.specs.declared.Key.{Key}
use Rattle.sql_eval.specs.Orders.{row_cmp}
use Rattle.key_intervals.specs.declared.direction.Direction.{Direction}
use Rattle.key_intervals.specs.declared.direction.Direction.TheVariants.{Forward, Backward}

-- the order of two rows, as a walk in this direction meets them
abbrev pub walked_cmp : Direction → List (Key ℕ) → Row → Row → Ordering
walked_cmp Forward keys a b = row_cmp keys a b
walked_cmp Backward keys a b = row_cmp keys b a
