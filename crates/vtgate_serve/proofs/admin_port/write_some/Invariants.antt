use Rattle.std.specs.Io.KnownBytes.{Keeps}
use Rattle.vtgate_serve.proofs.admin_port.write_some.Given as goal

-- nothing was taken so far
abbrev pub invariant-loop : goal.invariant-loop
invariant-loop g l = Keeps (g.S.Write.contents l.initial.stream) (g.S.Write.contents l.stream)
