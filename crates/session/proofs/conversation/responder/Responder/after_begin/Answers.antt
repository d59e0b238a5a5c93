use Rattle.session.specs.conversation.GivesText as x
use Rattle.session.proofs.conversation.RepliesLemmas.{begun_then, needs_one}
use Rattle.session.proofs.conversation.responder.Responder.after_begin.Goals as goal

pub returns-in-Ok-clause-runs : goal.returns-in-Ok-clause-runs
returns-in-Ok-clause-runs g c = λ handshake set off opens.
    begun_then _ _ handshake set _ _ _ _ _ _ c.args.text.now _ c.requires.closed off opens c.in-Ok.ensures.ok c.outcome_of.ensures.means

pub returns-in-Err-clause-runs : goal.returns-in-Err-clause-runs
returns-in-Err-clause-runs g c = λ handshake set off opens s held.
    let next = c.in-Err.ensures.err s held in
    (next.0, next.1, x.not_begun (needs_one _ handshake set _ _ s c.requires.closed off held) opens next.2)
