use Rattle.std.proofs.Common.{[], take, subst}
use Rattle.std.specs.Io.KnownBytes.{Consumes}
use Rattle.std.proofs.KnownBytes.{Appends-nil, Consumes-nil}
use Rattle.std.proofs.lemmas.List.{append-nil}
use Rattle.session.proofs.conversation.Conversations.{not_by_input}
use Rattle.session.proofs.Servings.{served}
use Rattle.session.proofs.serve_loop.Runner.serve_piece.Goals as goal

pub returns-then-is_new-clause-talk : goal.returns-then-is_new-clause-talk
returns-then-is_new-clause-talk g c = served _ _ _ _ _ _ _ _ _ _ [] c.feed.result (Consumes-nil (g.R.Source.unread c.args.source.now)) c.feed.ensures.talk

pub returns-then-is_new-clause-at_end : goal.returns-then-is_new-clause-at_end
returns-then-is_new-clause-at_end g c = not_by_input _ c.feed.result (c.feed.ensures.by_command c.requires.open_session)

pub returns-then-is_new-clause-write : goal.returns-then-is_new-clause-write
returns-then-is_new-clause-write g c = λ is begin first s bytes out held before.
    let said = c.feed.ensures.write is begin first s bytes out held before in ([], said.0, Consumes-nil (g.R.Source.unread c.args.source.now), said.1, said.2)

pub returns-clause-talk : goal.returns-clause-talk
returns-clause-talk g c = served _ _ _ _ _ _ _ _ _ _ _ c.feed-2.result c.in_ok-n.ensures.bytes.0 c.feed-2.ensures.talk

pub returns-clause-at_end : goal.returns-clause-at_end
returns-clause-at_end g c = not_by_input _ c.feed-2.result (c.feed-2.ensures.by_command c.requires.open_session)

pub returns-clause-write : goal.returns-clause-write
returns-clause-write g c = λ is begin first s bytes out held before.
    let said = c.feed-2.ensures.write is begin first s bytes out held before in (_, said.0, c.in_ok-n.ensures.bytes.0, said.1, said.2)

pub returns-then-n-eq0-clause-talk : goal.returns-then-n-eq0-clause-talk
returns-then-n-eq0-clause-talk g c begin first s bytes out held talked =
    let has = rw c.connection_state.ensures at (c.is_new.ensures.0 c.if-is_new.false) in
    let none : Consumes (g.R.Source.unread c.args.source.now) (g.R.Source.unread c.read_piece.new.source) [] =
    subst (λ k. Consumes (g.R.Source.unread c.args.source.now) (g.R.Source.unread c.read_piece.new.source) (take k c.read_piece.new.buffer)) c.if-n-eq0.true
    c.in_ok-n.ensures.bytes.0 in (
      [],
      [],
      none,
      Appends-nil (g.S.Sink.taken c.args.sink.now),
      (s, held, rw (append-nil bytes, append-nil out) (c.end_of_input.ensures.whole has _ _ begin first s bytes out talked)),
    )
