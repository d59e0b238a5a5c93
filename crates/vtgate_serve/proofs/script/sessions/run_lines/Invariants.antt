use Rattle.std.proofs.Common.{◌≡◌, length}
use Rattle.shard_run.specs.opening.Empty.{sharded_keyspace}
use Rattle.admin.specs.AdminAnswers.{keyspace_of}
use Rattle.vtgate_serve.proofs.script.Scripts.{AreRun}
use Rattle.vtgate_serve.proofs.script.sessions.run_lines.Given as goal

-- what was written for the lines so far
abbrev pub invariant-loop-line : goal.invariant-loop-line
invariant-loop-line g l = record {
  run : AreRun g.W.World.opening l.initial.administrator l.lines (g.O.Sink.taken l.initial.output) l.sessions l.administrator l.rest (g.O.Sink.taken l.output);
  home : keyspace_of l.administrator ≡ sharded_keyspace l.context.engine.now;
}

abbrev pub decreases-loop-line : goal.decreases-loop-line
decreases-loop-line g l = length l.rest
