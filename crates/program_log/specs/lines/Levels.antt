-- Which level the value of VTGATE_LOG asks for.
use Rattle.std.specs.Prelude.{ℕ, List, [], Option, Some}
use Rattle.log.specs.Level.{parse_filter}
use Rattle.log.specs.declared.level.LevelFilter.{LevelFilter}
use Rattle.log.specs.declared.level.LevelFilter.TheVariants.{Off}

-- a name of a level, in any case, asks for that level; the empty value is `off`
abbrev pub level_asked : List ℕ → Option LevelFilter
level_asked [] = Some Off
level_asked value = parse_filter value
