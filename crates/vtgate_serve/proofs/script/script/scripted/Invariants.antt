use Rattle.shard_law.specs.Entries.{most_limits}
use Rattle.shard_run.specs.opening.Empty.{opening_of}
use Rattle.vtgate_serve.proofs.script.script.scripted.Given as goal

-- the world of this VSchema and these ranges, without rows
abbrev pub ghosts-run_in_world : goal.ghosts-run_in_world
ghosts-run_in_world g a = record { opening = opening_of a.schema a.ranges.now; limits = most_limits }
