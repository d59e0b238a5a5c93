use Rattle.session.specs.conversation.Prepared as a
use Rattle.session.proofs.conversation.StatementReplies.{not_shown, not_read}
use Rattle.session.proofs.conversation.prepared.put_prepare.Goals as goal

pub returns-in-Ok-named_shown-clause-answers : goal.returns-in-Ok-named_shown-clause-answers
returns-in-Ok-named_shown-clause-answers c =
    c.put_new.ensures.answers c.args.schema.now c.args.text.now c.in-Ok.field-0.statement c.in-Ok.field-0.names c.in-Ok.ensures.found
    (rw c.as_slice-in-Ok-named_shown.ensures (rw c.as_slice-in-Ok.ensures at c.in-Ok-named_shown.ensures.shows))

pub returns-in-Err-named_shown-clause-answers : goal.returns-in-Err-named_shown-clause-answers
returns-in-Err-named_shown-clause-answers c =
    rw c.put_refusal.ensures.bytes
    (a.not_prepared (not_shown c.args.schema.now c.args.text.now _ _ _ c.in-Err-named_shown.why c.in-Ok.ensures.found c.in-Err-named_shown.ensures.err))

pub returns-in-Err-clause-answers : goal.returns-in-Err-clause-answers
returns-in-Err-clause-answers c =
    rw c.put_refusal-in-Err.ensures.bytes (a.not_prepared (not_read c.args.schema.now c.args.text.now c.in-Err.why c.in-Err.ensures.err))
