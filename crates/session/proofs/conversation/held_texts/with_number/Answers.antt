use Rattle.std.proofs.Common.{negsuc}
use Rattle.std.proofs.lemmas.Result.{IfOk-weaker}
use Rattle.sql_lexer.specs.Value.TheVariants.{Int, Null}
use Rattle.session.proofs.conversation.HeldTexts.{tries_none, not_tried}
use Rattle.session.proofs.conversation.held_texts.with_number.Goals as goal

pub returns-in-Ok-clause-found : goal.returns-in-Ok-clause-found
returns-in-Ok-clause-found c =
    IfOk-weaker c.statement_of.result _ _
    (λ x h. record { text = c.in-Ok.text.items; tried = c.in-Ok.ensures.found; says = rw c.as_slice.ensures.value at h })
    c.statement_of.ensures.found

pub returns-in-Ok-clause-err : goal.returns-in-Ok-clause-err
returns-in-Ok-clause-err c =
    tries_none c.statement_of.result c.args.schema.now (Int (negsuc 0)) c.args.pieces.now c.in-Ok.text.items c.in-Ok.ensures.only (rw c.as_slice.ensures.value at c.statement_of.ensures.err)

pub returns-in-Err-clause-err : goal.returns-in-Err-clause-err
returns-in-Err-clause-err c = not_tried c.args.schema.now (Int (negsuc 0)) c.args.pieces.now c.in-Err.why c.in-Err.ensures.err c.in-Err.ensures.only
