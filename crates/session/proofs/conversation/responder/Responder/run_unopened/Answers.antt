use Rattle.session.specs.conversation.GivesText as x
use Rattle.session.proofs.conversation.RepliesLemmas.{needs_one}
use Rattle.session.proofs.conversation.responder.Responder.run_unopened.Goals as goal

pub returns-in-Ok-true-clause-runs : goal.returns-in-Ok-true-clause-runs
returns-in-Ok-true-clause-runs g c = λ handshake.
    c.after_begin.ensures.runs handshake c.args.settings c.requires.off (c.in-Ok-true.ensures.opens.0 c.in-Ok-true.field-0-test)

pub returns-in-Ok-false-clause-runs : goal.returns-in-Ok-false-clause-runs
returns-in-Ok-false-clause-runs g c = λ handshake s held.
    let next = c.outcome_of.ensures.means s held in (
      next.0,
      next.1,
      x.alone (λ needs opens. let both = c.in-Ok-false.ensures.opens.1 opens in cc) next.2,
    )

pub returns-in-Err-clause-runs : goal.returns-in-Err-clause-runs
returns-in-Err-clause-runs g c = λ handshake s held.
    (s, held, rw c.in-Err.ensures.err (x.not_read (needs_one _ handshake c.args.settings _ _ s c.requires.closed c.requires.off held)))
