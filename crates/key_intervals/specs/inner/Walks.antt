-- Rows that are walked by their keys.
use Rattle.std.specs.Prelude.{List, reverse}
use Rattle.vt_value.specs.Values.{Row}
use Rattle.key_intervals.specs.declared.direction.Direction.{Direction}
use Rattle.key_intervals.specs.declared.direction.Direction.TheVariants.{Forward, Backward}

-- rows in the order of their keys, as the walk meets them
abbrev pub walked : Direction → List Row → List Row
walked Forward rows = rows
walked Backward rows = reverse rows
