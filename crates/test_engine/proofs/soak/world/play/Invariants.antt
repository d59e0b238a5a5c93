use Rattle.shard_contents.specs.Entries.{most_limits}
use Rattle.shard_run.specs.opening.Empty.{opening_of}
use Rattle.test_engine.proofs.soak.world.play.Given as goal

-- the world of this VSchema and these ranges
abbrev pub ghosts-play_in_world : goal.ghosts-play_in_world
ghosts-play_in_world g a = record { opening = opening_of a.schema a.ranges.now; limits = most_limits }
