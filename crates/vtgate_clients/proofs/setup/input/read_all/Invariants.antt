use Rattle.std.proofs.Common.{◌≡◌, vec_len}
use Rattle.std.specs.Io.KnownBytes.{Consumes}
use Rattle.vtgate_clients.specs.declared.setup.input.TheConstants.{PIECE}
use Rattle.vtgate_clients.proofs.setup.input.read_all.Given as goal

-- what was read so far
abbrev pub invariant-loop : goal.invariant-loop
invariant-loop g l = record {
  buffer : vec_len l.buffer ≡ PIECE;
  read : Consumes (g.I.Source.unread l.initial.input) (g.I.Source.unread l.input) l.bytes.items;
}
