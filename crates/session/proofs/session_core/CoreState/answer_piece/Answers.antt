use Rattle.std.proofs.Common.{◌∙◌, sym, ap}
use Rattle.std.proofs.lemmas.Result.{on_ok_weaker}
use Rattle.session.specs.declared.conversation.connection_state.Phase.{Phase}
use Rattle.session.specs.declared.conversation.connection_state.ConnectionState.TheVariants.{At}
use Rattle.session.specs.conversation.inner.Sessions.{one_command}
use Rattle.session.proofs.session_core.CoreState.answer_piece.Goals as goal

pub returns-in-Some-clause-answers : goal.returns-in-Some-clause-answers
returns-in-Some-clause-answers g c =
    rw (sym c.replace-begin.ensures.value ∙ c.in-At-Commands.is ∙ ap (λ (p : Phase). At p) c.in-At-Commands.field-0-is, c.feed_command.ensures.framer)
    (on_ok_weaker c.feed_command.result (λ answers. (one_command c.in-Some.command.now, c.in-Some.ensures.framed, answers)) c.feed_command.ensures.answers)

pub returns-in-Some-clause-write : goal.returns-in-Some-clause-write
returns-in-Some-clause-write g c = λ is.
    let cut = rw is at c.feed_command.ensures.write in
    rw (sym c.replace-begin.ensures.value ∙ c.in-At-Commands.is ∙ ap (λ (p : Phase). At p) c.in-At-Commands.field-0-is, c.feed_command.ensures.framer) (one_command c.in-Some.command.now, c.in-Some.ensures.framed, cut)

pub returns-in-None-clause-answers : goal.returns-in-None-clause-answers
returns-in-None-clause-answers g c = rw (sym c.replace-begin.ensures.value ∙ c.in-At-Commands.is ∙ ap (λ (p : Phase). At p) c.in-At-Commands.field-0-is ∙ sym c.still.ensures) c.feed_framed.ensures.answers

pub returns-in-None-clause-write : goal.returns-in-None-clause-write
returns-in-None-clause-write g c = rw (sym c.replace-begin.ensures.value ∙ c.in-At-Commands.is ∙ ap (λ (p : Phase). At p) c.in-At-Commands.field-0-is ∙ sym c.still.ensures) c.feed_framed.ensures.write
