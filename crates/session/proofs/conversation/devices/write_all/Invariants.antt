use Rattle.session.proofs.conversation.Written.{Leaves}
use Rattle.session.proofs.conversation.devices.write_all.Given as goal

-- what was taken so far
abbrev pub invariant-loop : goal.invariant-loop
invariant-loop g l = Leaves (g.W.Write.contents l.initial.writer) (g.W.Write.contents l.writer) l.bytes l.rest
