use Rattle.session.specs.conversation.GivesText as x
use Rattle.session.proofs.conversation.TextLemmas.{none_open, one_open}
use Rattle.session.proofs.conversation.responder.Responder.turned_on.Goals as goal

pub returns-then-not-is_open-clause-gives : goal.returns-then-not-is_open-clause-gives
returns-then-not-is_open-clause-gives g c = λ handshake s held. (
  s,
  held,
  rw (c.done.ensures, c.with_autocommit.ensures) (x.turned_on c.requires.off (none_open _ _ _ s _ held c.if-not-is_open.true c.is_open.ensures)),
)

pub returns-in-Ok-clause-gives : goal.returns-in-Ok-clause-gives
returns-in-Ok-clause-gives g c = λ handshake s held.
    let next = c.in-Ok.ensures.ok s held in (
      next.0,
      next.1,
      rw (c.done-in-Ok.ensures, c.with_autocommit-in-Ok.ensures)
          (x.committed c.requires.off (one_open _ _ _ s _ held c.if-not-is_open.false c.is_open.ensures) next.2),
    )

pub returns-in-Err-clause-gives : goal.returns-in-Err-clause-gives
returns-in-Err-clause-gives g c = λ handshake s held.
    let next = c.in-Err.ensures.err s held in (
      next.0,
      next.1,
      rw c.refused.ensures (x.not_committed c.requires.off (one_open _ _ _ s _ held c.if-not-is_open.false c.is_open.ensures) next.2),
    )
