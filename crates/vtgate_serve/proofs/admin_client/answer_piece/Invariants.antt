use Rattle.std.proofs.Common.{◌≡◌, ◌++◌, length}
use Rattle.admin.specs.AdminAnswers.{keyspace_of}
use Rattle.vtgate_serve.proofs.Conversing.{IsUnderWay}
use Rattle.vtgate_serve.proofs.admin_client.answer_piece.Given as goal

-- the lines so far are answered
abbrev pub invariant-loop-more : goal.invariant-loop-more
invariant-loop-more g l = record {
  run : IsUnderWay g.W.World.opening g.W.World.limits (record { pass = l.initial.pass; workflow = l.initial.administrator }) (l.initial.front.items ++ l.piece)
      l.front.items l.rest (g.O.Sink.taken l.initial.sink) (g.O.Sink.taken l.sink) (record { pass = l.pass; workflow = l.administrator });
  keyspace : keyspace_of l.administrator ≡ keyspace_of l.initial.administrator;
}

abbrev pub decreases-loop-more : goal.decreases-loop-more
decreases-loop-more g l = length l.rest
