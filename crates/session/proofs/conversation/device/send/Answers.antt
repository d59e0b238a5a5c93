use Rattle.std.proofs.Common.{sym, take}
use Rattle.std.proofs.lemmas.List.{take-append-drop}
use Rattle.session.proofs.conversation.device.send.Goals as goal

pub returns-in-Ok-clause-sent : goal.returns-in-Ok-clause-sent
returns-in-Ok-clause-sent g c =
    rw c.drop_first.ensures
    (take c.in-Ok.n c.args.unsent.now.items, sym (take-append-drop c.in-Ok.n c.args.unsent.now.items), rw c.deref.ensures.value at c.in-Ok.ensures.bytes)
