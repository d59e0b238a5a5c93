use Rattle.std.proofs.Common.{◌≡◌}
use Rattle.mysql_handshake.proofs.Printables.{half}
use Rattle.mysql_handshake.proofs.salt.all_printable.Given as goal

-- the bytes before the place are printable
abbrev pub invariant-loop-ordinal : goal.invariant-loop-ordinal
invariant-loop-ordinal l = l.all ≡ half l.ordinal l.bytes
