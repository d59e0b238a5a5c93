use Rattle.std.proofs.Common.{sym, ◌∙◌}
use Rattle.session.specs.conversation.GivesText as x
use Rattle.session.proofs.conversation.TextLemmas.{turning}
use Rattle.session.proofs.conversation.responder.Responder.statement_outcome.Goals as goal

pub returns-then-turns_on-clause-gives : goal.returns-then-turns_on-clause-gives
returns-then-turns_on-clause-gives g c =
    let is = turning c.args.settings c.args.statement.now (sym c.turns_on.ensures ∙ c.if-turns_on.true) in
    rw is.0 (c.turned_on-reply.ensures.gives c.args.self.now.handshake.now)

pub returns-in-Begin-clause-gives : goal.returns-in-Begin-clause-gives
returns-in-Begin-clause-gives g c = λ s held.
    let next = c.outcome_of-begun.ensures.means s held in
    (next.0, next.1, rw c.in-Begin.is (x.begun next.2))

pub returns-in_default-clause-gives : goal.returns-in_default-clause-gives
returns-in_default-clause-gives g c = λ s held.
    let tells = rw (c.schema.ensures.schema, c.schema.ensures.opening) at c.local_answer-reply.ensures in
    (s, held, x.by_itself tells)
