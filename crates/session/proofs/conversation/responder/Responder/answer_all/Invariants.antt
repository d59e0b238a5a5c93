use Rattle.std.proofs.Common.{◌≡◌, ℕ, List, ◌+◌, ◌≤◌, length, take}
use Rattle.std.specs.Io.KnownBytes.{Appends}
use Rattle.route_engine.specs.Pendings.{IsOf}
use Rattle.session.specs.declared.conversation.reply.TheConstants.{REPLY_ROOM}
use Rattle.session.specs.declared.conversation.connection_state.ConnectionState.TheVariants.{At}
use Rattle.session.specs.conversation.Means.{Means, context_of}
use Rattle.session.specs.conversation.inner.Means.{LeadsKept}
use Rattle.session.specs.conversation.Talk.{Replies}
use Rattle.session.proofs.conversation.responder.Responder.answer_all.Given as goal

abbrev pub invariant-loop-payload : goal.invariant-loop-payload
invariant-loop-payload g l = record {
  session : l.pass.session ≡ l.initial.pass.session;
  tx : IsOf g.W.World.opening l.state.tx l.pass;
  room : REPLY_ROOM ≤ length l.state.reply.items + l.state.reply.spare;
  count : g.S.Sink.failures l.sink ≡ g.S.Sink.failures l.initial.sink;
  replies : (out : List ℕ) × Appends (g.S.Sink.taken l.initial.sink) (g.S.Sink.taken l.sink) out
      × LeadsKept g.W.World.opening l.initial.pass l.initial.state.tx l.pass l.state.tx
      (λ s now. Replies (context_of g.W.World.opening l.fn.self.handshake.now) (Means g.W.World.opening g.W.World.limits) l.fn.begin s (take l.payload-index l.payloads) out (At l.phase) now);
}
