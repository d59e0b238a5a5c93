-- The sort keys of one direction.
use Rattle.std.specs.Prelude.{ℕ, Bool, not}
use Rattle.sql_tree.specs.declared.Key.{Key}
use Rattle.key_intervals.specs.declared.direction.Direction.{Direction}
use Rattle.key_intervals.specs.declared.direction.Direction.TheVariants.{Forward, Backward}

abbrev pub is_of : Direction → Key ℕ → Bool
is_of Forward k = not k.descending
is_of Backward k = k.descending
