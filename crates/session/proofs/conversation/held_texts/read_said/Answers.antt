use Rattle.std.proofs.lemmas.Result.{IfOk-weaker}
use Rattle.session.specs.conversation.Prepared as a
use Rattle.session.proofs.conversation.HeldTexts.{none_held, none_blank, too_many_holes}
use Rattle.session.proofs.conversation.held_texts.read_said.Goals as goal

pub returns-in-Err-clause-err : goal.returns-in-Err-clause-err
returns-in-Err-clause-err c = too_many_holes c.args.schema.now c.args.text.now c.in-Err.why c.requires.other c.in-Err.ensures.err

pub returns-in-Err-with_number-clause-err : goal.returns-in-Err-with_number-clause-err
returns-in-Err-with_number-clause-err c =
    none_held c.args.schema.now c.args.text.now c.in-Ok.pieces c.in-Err-with_number.why c.requires.other c.in-Ok.ensures.found.0
    (rw c.as_slice.ensures at c.in-Err-with_number.ensures.err)

pub returns-clause-found : goal.returns-clause-found
returns-clause-found c =
    IfOk-weaker c.held_text.result _ _
    (λ x h. rw h.0 (a.said c.requires.other c.in-Ok.ensures.found.0 c.in-Ok.ensures.found.1 (rw c.as_slice.ensures at c.in-Ok-with_number.ensures.found) h.1))
    c.held_text.ensures.found

pub returns-clause-err : goal.returns-clause-err
returns-clause-err c =
    none_blank c.held_text.result c.args.schema.now c.args.text.now c.in-Ok.pieces c.requires.other c.in-Ok.ensures.found.0 c.held_text.ensures.err
