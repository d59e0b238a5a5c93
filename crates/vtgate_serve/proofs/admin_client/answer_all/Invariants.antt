use Rattle.std.proofs.Common.{◌≡◌, List, ℕ}
use Rattle.std.specs.Io.KnownBytes.{Consumes}
use Rattle.admin.specs.AdminAnswers.{keyspace_of}
use Rattle.vtgate_serve.specs.Conversations.{AllAnswered}
use Rattle.vtgate_serve.proofs.admin_client.answer_all.Given as goal

-- the bytes so far, whose lines are answered
abbrev pub invariant-loop : goal.invariant-loop
invariant-loop g l = record {
  run : (came : List ℕ) × Consumes (g.I.Source.unread l.initial.source) (g.I.Source.unread l.source) came
      × AllAnswered g.W.World.opening g.W.World.limits (record { pass = l.initial.pass; workflow = l.initial.administrator }) came
      l.front.items (g.O.Sink.taken l.initial.sink) (g.O.Sink.taken l.sink) (record { pass = l.pass; workflow = l.administrator });
  keyspace : keyspace_of l.administrator ≡ keyspace_of l.initial.administrator;
}
