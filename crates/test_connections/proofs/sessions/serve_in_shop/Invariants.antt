use Rattle.vtgate_serve.specs.Entries.{most_limits}
use Rattle.shard_run.specs.opening.Empty.{opening_of}
use Rattle.test_connections.proofs.sessions.serve_in_shop.Given as goal

-- the world of this VSchema and these ranges
abbrev pub ghosts-serve_in_world : goal.ghosts-serve_in_world
ghosts-serve_in_world g a = record { opening = opening_of a.schema a.ranges.now; limits = most_limits }
