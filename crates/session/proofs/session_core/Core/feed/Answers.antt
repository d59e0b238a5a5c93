use Rattle.std.proofs.Common.{refl, sym, ◌∙◌}
use Rattle.session.proofs.Alone.{fed_over, kept_same, same_legal, same_others}
use Rattle.session.proofs.conversation.Conversations.{talked_on, broken_off, fed_ends, same_fault}
use Rattle.session.proofs.Begun.{fed_begun, ended_begun}
use Rattle.session.proofs.session_core.Core.feed.Goals as goal

pub returns-in-Ok-clause-talk : goal.returns-in-Ok-clause-talk
returns-in-Ok-clause-talk g c =
    rw (c.end_of-in-Ok.ensures, ← c.self.view_is)
    (λ begin first s bytes out held before.
    let said = c.in-Ok.ensures.answers in
    let then = said.2.2 s held in
    (said.2.0, said.2.1, (then.0, then.1, talked_on _ _ _ _ c.args.piece.now said.0 said.1 begin first s then.0 bytes out before said.2.0 c.answer_piece.new.self.connection_state refl then.2)))

pub returns-in-Ok-clause-alone : goal.returns-in-Ok-clause-alone
returns-in-Ok-clause-alone g c =
    rw (c.end_of-in-Ok.ensures, ← c.self.view_is)
    (λ begin first s bytes out held before alone.
    let said = c.in-Ok.ensures.answers in
    let then = said.2.2 s.kept held in
    let over = fed_over g.W.World.opening g.W.World.limits _ c.begins_with.ensures.opens c.begins_with.ensures.formed _ said.0 said.2.0 c.answer_piece.new.self.connection_state s then.0
    (same_legal _ _ _ held.0 c.begins_with.ensures.legal) then.2 (same_others _ _ _ _ held.0 then.1.0 alone) in (
      said.2.0,
      said.2.1,
      (over.0, kept_same _ _ _ _ _ over.1 then.1, talked_on _ _ _ _ c.args.piece.now said.0 said.1 begin first s over.0 bytes out before said.2.0 c.answer_piece.new.self.connection_state refl over.2),
    ))

pub returns-in-Ok-clause-by_command : goal.returns-in-Ok-clause-by_command
returns-in-Ok-clause-by_command g c =
    rw c.end_of-in-Ok.ensures
    (λ going.
    let said = c.in-Ok.ensures.answers in
    let kept = rw (← c.self.view_is) at c.requires.tx in
    let then = said.2.2 (record { pass = c.args.pass.now; tx = kept.0 }) (refl, kept.1) in
    fed_ends _ _ _ _ _ said.0 said.2.0 c.answer_piece.new.self.connection_state then.2)

pub returns-in-Err-clause-write : goal.returns-in-Err-clause-write
returns-in-Err-clause-write g c =
    rw (← c.self.view_is)
    (λ is begin first s bytes out held before.
    let said = c.in-Err.ensures.write (same_fault _ _ is) in
    let then = said.2.2 s held in (
      said.2.0,
      said.2.1,
      (
        then.0,
        then.1,
        broken_off _ _ _ (record c.args.self.now { framing = c.answer_piece.new.self.framer }) c.args.piece.now said.0 said.1 begin first s then.0 bytes out before said.2.0 then.2,
      ),
    ))

pub returns-in-Ok-clause-begun : goal.returns-in-Ok-clause-begun
returns-in-Ok-clause-begun g c =
    let said = c.in-Ok.ensures.answers in
    let kept = rw (← c.self.view_is) at c.requires.tx in
    let then = said.2.2 (record { pass = c.args.pass.now; tx = kept.0 }) (refl, kept.1) in
    fed_begun _ _ _ _ _ said.0 said.2.0 c.answer_piece.new.self.connection_state then.2

pub returns-in-Some-clause-begun : goal.returns-in-Some-clause-begun
returns-in-Some-clause-begun g c = rw (← c.self.view_is) (ended_begun c.self.inside.state.connection_state c.in-Some.end (sym c.end_of.ensures ∙ c.in-Some.is))
