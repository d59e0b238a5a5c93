use Rattle.std.proofs.Common.{◌≡◌, ℕ, List, None}
use Rattle.std.specs.Io.KnownBytes.{Appends, Consumes}
use Rattle.route_engine.specs.Pendings.{IsOf}
use Rattle.session.specs.declared.session_core.TheConstants.{COMMAND_LIMIT}
use Rattle.session.specs.declared.conversation.access.Handshake.{Handshake}
use Rattle.session.specs.declared.conversation.connection_state.ConnectionState.TheVariants.{New}
use Rattle.session.specs.conversation.Means.{PassAndTransaction, IsKept, Means, none_open, context_of}
use Rattle.session.specs.conversation.Sessions.{HasTalked}
use Rattle.session.specs.conversation.ConnectionStates.{end_of}
use Rattle.session.proofs.serve_loop.Runner.serve_on.Given as goal

abbrev pub invariant-loop : goal.invariant-loop
invariant-loop g l =
    let handshake : Handshake = l.fn.core.handshake in record {
      session : l.pass.session ≡ l.initial.pass.session;
      limit : l.core.framing.limit ≡ COMMAND_LIMIT;
      open_session : end_of l.core.connection_state ≡ None;
      tx : IsOf g.W.World.opening l.core.tx l.pass;
      connection : l.core.handshake ≡ handshake;
      source_count : g.R.Source.failures l.source ≡ g.R.Source.failures l.initial.source;
      sink_count : g.S.Sink.failures l.sink ≡ g.S.Sink.failures l.initial.sink;
      talked : (read : List ℕ) × (written : List ℕ) × Consumes (g.R.Source.unread l.initial.source) (g.R.Source.unread l.source) read
          × Appends (g.S.Sink.taken l.initial.sink) (g.S.Sink.taken l.sink) written
          × ((now : PassAndTransaction) × IsKept g.W.World.opening l.pass l.core.tx now
          × HasTalked (context_of g.W.World.opening handshake) (Means g.W.World.opening g.W.World.limits) New l.core (none_open l.initial.pass) read written now);
    }
