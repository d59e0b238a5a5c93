use Rattle.std.proofs.Common.{◌≡◌}
use Rattle.shard_run.specs.opening.Empty.{sharded_keyspace}
use Rattle.admin.specs.AdminAnswers.{keyspace_of}
use Rattle.vtgate_serve.proofs.admin_port.serve_admin.Given as goal

-- the administrator stays that of the engine's sharded keyspace
abbrev pub invariant-loop : goal.invariant-loop
invariant-loop g l = keyspace_of l.administrator ≡ sharded_keyspace l.server.engine.now
