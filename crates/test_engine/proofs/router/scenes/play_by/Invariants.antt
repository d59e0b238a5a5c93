use Rattle.shard_run.specs.opening.Empty.{opening_of}
use Rattle.test_engine.proofs.router.scenes.play_by.Given as goal

-- the world of this VSchema and these ranges, within these limits
abbrev pub ghosts-play_in_world : goal.ghosts-play_in_world
ghosts-play_in_world g a = record { opening = opening_of a.schema a.ranges.now; limits = a.limits }
