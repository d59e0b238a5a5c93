use Rattle.std.proofs.Common.{[], refl}
use Rattle.std.proofs.KnownBytes.{Appends-nil, Consumes-nil}
use Rattle.session.specs.declared.conversation.connection_state.ConnectionState.TheVariants.{New}
use Rattle.session.specs.conversation.Means.{none_open}
use Rattle.session.proofs.Servings.{unstarted}
use Rattle.session.proofs.serve_loop.serve.Goals as goal

pub returns-in_err-buffer-clause-memory : goal.returns-in_err-buffer-clause-memory
returns-in_err-buffer-clause-memory g c = λ is. ([], [], [], Consumes-nil (g.R.Source.unread c.args.source.now), Appends-nil (g.S.Sink.taken c.args.sink.now), (none_open c.args.pass.now, refl, unstarted _ _ New _ _))

pub returns-in_err-core-clause-memory : goal.returns-in_err-core-clause-memory
returns-in_err-core-clause-memory g c = λ is. ([], [], [], Consumes-nil (g.R.Source.unread c.args.source.now), Appends-nil (g.S.Sink.taken c.args.sink.now), (none_open c.args.pass.now, refl, unstarted _ _ New _ _))

pub returns-clause-talk : goal.returns-clause-talk
returns-clause-talk g c = rw c.in_ok-core.ensures.handshake at c.serve_on.ensures.talk

pub returns-clause-alone : goal.returns-clause-alone
returns-clause-alone g c = rw c.in_ok-core.ensures.handshake at c.serve_on.ensures.alone

pub returns-clause-read : goal.returns-clause-read
returns-clause-read g c = rw c.in_ok-core.ensures.handshake at c.serve_on.ensures.read

pub returns-clause-memory : goal.returns-clause-memory
returns-clause-memory g c = rw c.in_ok-core.ensures.handshake at c.serve_on.ensures.memory

pub returns-clause-write : goal.returns-clause-write
returns-clause-write g c = rw c.in_ok-core.ensures.handshake at c.serve_on.ensures.write

pub returns-clause-at_end : goal.returns-clause-at_end
returns-clause-at_end g c = c.serve_on.ensures.at_end

pub returns-clause-source_count : goal.returns-clause-source_count
returns-clause-source_count g c = c.serve_on.ensures.source_count

pub returns-clause-sink_count : goal.returns-clause-sink_count
returns-clause-sink_count g c = c.serve_on.ensures.sink_count

pub returns-clause-session : goal.returns-clause-session
returns-clause-session g c = c.serve_on.ensures.session
