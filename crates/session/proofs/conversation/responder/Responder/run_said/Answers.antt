use Rattle.session.proofs.conversation.RepliesLemmas.{said_or_full}
use Rattle.session.proofs.conversation.responder.Responder.run_said.Goals as goal

pub returns-clause-runs : goal.returns-clause-runs
returns-clause-runs g c = λ handshake.
    said_or_full _ _ handshake _ _ _ _ _ c.args.said.now.text c.args.said.now.names _ _ (rw c.as_slice-2.ensures at c.named.ensures)
    (rw c.as_slice.ensures at (c.run_text-outcome.ensures.runs handshake))
