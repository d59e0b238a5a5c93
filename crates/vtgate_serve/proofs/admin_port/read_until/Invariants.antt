use Rattle.std.proofs.Common.{◌≡◌, length}
use Rattle.std.specs.Io.KnownBytes.{Keeps}
use Rattle.vtgate_serve.proofs.admin_port.read_until.Given as goal

-- nothing was read so far
abbrev pub invariant-loop : goal.invariant-loop
invariant-loop g l = (length l.buffer ≡ length l.initial.buffer) × Keeps (g.S.Read.remaining l.initial.stream) (g.S.Read.remaining l.stream)
