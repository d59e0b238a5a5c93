use Rattle.std.proofs.Common.{[], refl, ap, ◌∙◌}
use Rattle.std.proofs.KnownBytes.{Appends-nil, Consumes-nil}
use Rattle.std.specs.Prelude.{None}
use Rattle.session.specs.conversation.Means.{context_of, none_open}
use Rattle.session.specs.Alone.{alone_first}
use Rattle.session.proofs.Alone.{served_alone}
use Rattle.session.proofs.conversation.Conversations.{same_fault}
use Rattle.session.proofs.Servings.{one_more, still_goes_on, still_open, has_ended, stopped, starved, cut_short, told_passes, told_pass, kept_pass, kept_none}
use Rattle.session.proofs.serve_loop.Runner.serve_on.Goals as goal

pub returns-in-Err-clause-read : goal.returns-in-Err-clause-read
returns-in-Err-clause-read g c = λ is.
    let said = c.in-Err.ensures.read (same_fault _ _ is) in
    told_passes _ _ (kept_pass _ _ _ _ said.2) _ _ _ _ _
    (stopped _ _ _ _ _ c.loop.core _ _ _ _ _ _ _ c.loop.invariant.limit c.loop.invariant.talked said.0 (ap g.S.Sink.taken said.1))

pub returns-in-Err-clause-memory : goal.returns-in-Err-clause-memory
returns-in-Err-clause-memory g c = λ is.
    let said = c.in-Err.ensures.memory (same_fault _ _ is) in
    let all = starved _ _ _ _ _ c.loop.core _ _ _ _ _ _ _ c.loop.invariant.limit c.loop.invariant.talked said.0 (ap g.S.Sink.taken said.1) in
    (all.0, all.1, all.2, all.3, all.4, told_pass _ _ (kept_pass _ _ _ _ said.2) _ all.5)

pub returns-in-Err-clause-write : goal.returns-in-Err-clause-write
returns-in-Err-clause-write g c = λ is.
    told_passes _ _ (kept_pass _ _ _ _ refl) _ _ _ _ _
    (cut_short (context_of g.W.World.opening) _ _ _ _ _ _ _ c.loop.invariant.connection c.loop.core _ _ _ _ _ _ _ c.loop.invariant.limit c.loop.invariant.talked
    (c.in-Err.ensures.write (same_fault _ _ is)))

pub returns-in-Ok-Some-clause-talk : goal.returns-in-Ok-Some-clause-talk
returns-in-Ok-Some-clause-talk g c =
    told_passes _ _ (kept_pass _ _ _ _ refl) _ _ _ _ _
    (has_ended _ _ _ _ _ c.serve_piece.new.core _ _ _ _ _ c.in-Ok-Some.field-0 c.in-Ok-Some.end c.in-Ok-Some.field-0-is (c.in-Ok-Some.ensures.next.limit ∙ c.loop.invariant.limit)
    (one_more (context_of g.W.World.opening) _ _ _ _ _ _ _ c.loop.invariant.connection c.loop.core c.serve_piece.new.core _ _ _ _ _ _ c.in-Ok-Some.field-0 c.loop.invariant.talked c.in-Ok-Some.ensures.talk))

pub returns-in-Ok-Some-clause-alone : goal.returns-in-Ok-Some-clause-alone
returns-in-Ok-Some-clause-alone g c = λ others.
    served_alone g.W.World.opening g.W.World.limits _ c.begins_with.ensures.opens c.begins_with.ensures.formed (alone_first g.W.World.opening c.args.pass.now) _ _ _ c.in-Ok-Some.end _ _ _ _
    c.begins_with.ensures.legal
    (told_passes _ _ (kept_pass _ _ _ _ refl) _ _ _ _ _
    (has_ended _ _ _ _ _ c.serve_piece.new.core _ _ _ _ _ c.in-Ok-Some.field-0 c.in-Ok-Some.end c.in-Ok-Some.field-0-is (c.in-Ok-Some.ensures.next.limit ∙ c.loop.invariant.limit)
    (one_more (context_of g.W.World.opening) _ _ _ _ _ _ _ c.loop.invariant.connection c.loop.core c.serve_piece.new.core _ _ _ _ _ _ c.in-Ok-Some.field-0 c.loop.invariant.talked c.in-Ok-Some.ensures.talk)))
    others

pub loop-preserved : goal.loop-preserved
loop-preserved g c =
    let talked =
    still_goes_on _ _ _ _ _ c.serve_piece.new.core _ _ _ _ c.in-Ok-None.field-0 c.in-Ok-None.field-0-is
    (one_more (context_of g.W.World.opening) _ _ _ _ _ _ _ c.loop.invariant.connection c.loop.core c.serve_piece.new.core _ _ _ _ _ _ c.in-Ok-None.field-0 c.loop.invariant.talked c.in-Ok-None.ensures.talk) in record {
      session = c.in-Ok-None.ensures.session ∙ c.loop.invariant.session;
      limit = c.in-Ok-None.ensures.next.limit ∙ c.loop.invariant.limit;
      connection = c.in-Ok-None.ensures.next.handshake ∙ c.loop.invariant.connection;
      open_session = still_open _ _ _ _ _ _ _ _ _ _ talked;
      tx = c.in-Ok-None.ensures.tx;
      source_count = c.in-Ok-None.ensures.source_count ∙ c.loop.invariant.source_count;
      sink_count = c.in-Ok-None.ensures.sink_count ∙ c.loop.invariant.sink_count;
      talked = talked;
    }

pub loop-init : goal.loop-init
loop-init g c =
    let kept = kept_none g.W.World.opening c.args.pass.now c.args.core.now.tx c.requires.none_open in record {
      session = refl;
      limit = c.requires.limit;
      open_session = c.requires.open_session;
      tx = (None, kept.1);
      connection = refl;
      source_count = refl;
      sink_count = refl;
      talked = (
        [],
        [],
        Consumes-nil (g.R.Source.unread c.args.source.now),
        Appends-nil (g.S.Sink.taken c.args.sink.now),
        (none_open c.args.pass.now, kept, c.requires.begins g.W.World.opening g.W.World.limits (none_open c.args.pass.now)),
      );
    }
