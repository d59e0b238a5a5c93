use Rattle.session.specs.declared.conversation.reply.RowForm.TheVariants as form
use Rattle.session.proofs.conversation.RepliesLemmas.{one_execution, one_text_or_refusal}
use Rattle.session.proofs.conversation.StatementReplies.{not_run}
use Rattle.session.proofs.conversation.responder.Responder.put_execute.Goals as goal

pub returns-in-Ok-clause-answers : goal.returns-in-Ok-clause-answers
returns-in-Ok-clause-answers g c = λ payload first is_number is_execute.
    let told = rw c.as_slice.ensures.value at c.put_text-rows.ensures.gives in
    let bytes = rw is_number at told.2 in
    one_text_or_refusal _ _ c.args.self.now.handshake.now c.args.settings c.put_text-rows.result.0 form.Binary _ _ _ _ _ _ _ told.0 _
    (λ s now x gives is.
    one_execution _ _ c.args.settings c.args.held c.put_text-rows.result.0 c.execute.new.self s now payload _ _ _ x first is_execute c.in-Ok.ensures.ok gives is)
    told.1 bytes

pub returns-in-Err-clause-answers : goal.returns-in-Err-clause-answers
returns-in-Err-clause-answers g c = λ payload first is_number is_execute s held. (
  s,
  held,
  not_run _ _ c.args.self.now.handshake.now c.args.settings c.args.held c.execute.new.self c.args.number c.args.bytes.now _ s payload first is_number is_execute
      (λ schema end status. c.put_not_executed.ensures.executes schema end status c.args.held c.execute.new.self c.args.bytes.now c.in-Err.ensures.err
      c.in-Err.ensures.refused c.in-Err.ensures.large c.in-Err.ensures.unknown),
)
