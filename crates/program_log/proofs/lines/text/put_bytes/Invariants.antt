use Rattle.std.proofs.Common.{◌≡◌, ◌++◌, drop}
use Rattle.std.specs.Prelude.{flat_map}
use Rattle.program_log.specs.lines.Lines.{shown_byte}
use Rattle.program_log.proofs.lines.text.put_bytes.Given as goal

abbrev pub invariant-loop-byte : goal.invariant-loop-byte
invariant-loop-byte l = l.out.items ++ flat_map shown_byte (drop l.byte-index l.bytes) ≡ l.fn.out.items ++ flat_map shown_byte l.bytes
