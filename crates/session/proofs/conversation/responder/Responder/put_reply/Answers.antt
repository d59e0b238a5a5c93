use Rattle.std.proofs.Common.{◌≡◌, ap, refl, ◌∙◌, arith}
use Rattle.std.proofs.lemmas.Bool.{ne_eqb}
use Rattle.session.specs.conversation.ConnectionStates.{first_number}
use Rattle.vschema.specs.declared.schema.VSchema.{VSchema}
use Rattle.session.proofs.conversation.RepliesLemmas.{login_kept, one_out_of_order}
use Rattle.session.proofs.conversation.Conversations.{command_is}
use Rattle.session.proofs.conversation.responder.Responder.put_reply.Goals as goal

pub returns-then-payload-first_number-clause-answers : goal.returns-then-payload-first_number-clause-answers
returns-then-payload-first_number-clause-answers g c = λ s held. (
  s,
  held,
  one_out_of_order _ _ _ s c.args.payload.now _ (ne_eqb c.args.payload.now.first (first_number c.args.phase) (rw c.first_number.ensures at c.if-payload-first_number.true))
      c.put_refusal.ensures.bytes,
)

pub returns-in-Response-clause-answers : goal.returns-in-Response-clause-answers
returns-in-Response-clause-answers g c =
    login_kept _ _ _ _ _ _ _ _ c.args.payload.now _ _ _ c.in-Response.is (ap (λ (v : VSchema). v.keyspaces) (c.schema.ensures.schema ∙ c.schema.ensures.opening))
    c.status_of.ensures c.put_response.ensures.logs_in

pub returns-in-Switch-clause-answers : goal.returns-in-Switch-clause-answers
returns-in-Switch-clause-answers g c =
    login_kept _ _ _ _ _ _ _ _ c.args.payload.now _ _ _ c.in-Switch.is refl c.status_of-in-Switch.ensures (c.put_answer.ensures.logs_in _)

pub returns-in-Commands-clause-answers : goal.returns-in-Commands-clause-answers
returns-in-Commands-clause-answers g c =
    let none : c.first_number.result ≡ 0 = rw c.in-Commands.is at c.first_number.ensures in
    let first : c.args.payload.now.first ≡ 0 = omega (arith, none) in
    rw c.in-Commands.is (rw (command_is c.args.payload.now c.as_slice-bytes.result.now first c.as_slice-bytes.ensures) at c.put_command.ensures.answers)
