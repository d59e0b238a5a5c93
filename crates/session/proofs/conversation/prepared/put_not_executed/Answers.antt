use Rattle.session.specs.conversation.Prepared as a
use Rattle.session.proofs.conversation.StatementReplies.{not_supported_is, wrong_is}
use Rattle.session.proofs.conversation.prepared.put_not_executed.Goals as goal

pub returns-in-OutOfMemory-clause-executes : goal.returns-in-OutOfMemory-clause-executes
returns-in-OutOfMemory-clause-executes c = λ schema end status held then bytes uses refused large unknown. rw c.put_refusal.ensures.bytes (a.no_memory uses)

pub returns-in-NotSupported-clause-executes : goal.returns-in-NotSupported-clause-executes
returns-in-NotSupported-clause-executes c = λ schema end status held then bytes uses refused large unknown.
    rw c.put_refusal-in-NotSupported.ensures.bytes (a.not_supported uses (refused (not_supported_is c.args.why c.in-NotSupported.is)))

pub returns-in-TooLarge-clause-executes : goal.returns-in-TooLarge-clause-executes
returns-in-TooLarge-clause-executes c = λ schema end status held then bytes uses refused large unknown.
    rw c.put_refusal-in-TooLarge.ensures.bytes (a.too_long uses (large c.in-TooLarge.is))

pub returns-in-Unknown-clause-executes : goal.returns-in-Unknown-clause-executes
returns-in-Unknown-clause-executes c = λ schema end status held then bytes uses refused large unknown.
    rw c.put_one_fault.ensures.bytes (a.unknown uses (unknown c.in-Unknown.is))

pub returns-in-Wrong-clause-executes : goal.returns-in-Wrong-clause-executes
returns-in-Wrong-clause-executes c = λ schema end status held then bytes uses refused large unknown.
    rw c.put_one_fault-in-Wrong.ensures.bytes (a.wrong uses (refused (wrong_is c.args.why c.in-Wrong.is)))
