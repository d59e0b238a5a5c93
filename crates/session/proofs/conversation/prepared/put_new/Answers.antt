use Rattle.std.proofs.Common.{refl}
use Rattle.session.specs.conversation.Prepared as a
use Rattle.session.proofs.conversation.StatementReplies.{told}
use Rattle.session.proofs.conversation.prepared.put_new.Goals as goal

pub returns-in-Ok-clause-answers : goal.returns-in-Ok-clause-answers
returns-in-Ok-clause-answers c = λ schema text statement names may shows.
    told schema c.args.end c.args.status c.args.number c.args.held c.add.new.self text c.args.pieces statement names c.args.columns.now c.in-Ok.statement c.args.holes _ c.requires.holes
    may shows c.in-Ok.ensures.ok c.put_told-chunks.ensures.bytes

pub returns-in-Err-TooMany-clause-answers : goal.returns-in-Err-TooMany-clause-answers
returns-in-Err-TooMany-clause-answers c = λ schema text statement names may shows.
    rw (c.put_one_fault.ensures.bytes, c.in-Err-TooMany.ensures.err) (a.too_many may (c.in-Err-TooMany.ensures.full c.in-Err-TooMany.field-0-is))

pub returns-in-Err-OutOfMemory-clause-answers : goal.returns-in-Err-OutOfMemory-clause-answers
returns-in-Err-OutOfMemory-clause-answers c = λ schema text statement names may shows.
    rw (c.put_refusal.ensures.bytes, c.in-Err-OutOfMemory.ensures.err) (a.not_prepared a.no_memory)
