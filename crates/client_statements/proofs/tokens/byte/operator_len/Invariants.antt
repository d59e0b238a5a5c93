use Rattle.std.proofs.Common.{◌≡◌, ◌+◌, drop}
use Rattle.client_statements.specs.tokens.Pieces.{is_operator_byte}
use Rattle.sql_lexer.specs.inner.Scanning.{run}
use Rattle.client_statements.proofs.tokens.byte.operator_len.Given as goal

abbrev pub invariant-loop-byte : goal.invariant-loop-byte
invariant-loop-byte l = record { index : l.count ≡ l.byte-index; rest : l.count + run is_operator_byte (drop l.byte-index l.bytes) ≡ run is_operator_byte l.bytes }
