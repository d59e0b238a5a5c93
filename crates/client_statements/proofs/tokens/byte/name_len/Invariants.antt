use Rattle.std.proofs.Common.{◌≡◌, ◌+◌, drop}
use Rattle.client_statements.specs.tokens.Pieces.{in_name}
use Rattle.sql_lexer.specs.inner.Scanning.{run}
use Rattle.client_statements.proofs.tokens.byte.name_len.Given as goal

abbrev pub invariant-loop-byte : goal.invariant-loop-byte
invariant-loop-byte l = record { index : l.count ≡ l.byte-index; rest : l.count + run in_name (drop l.byte-index l.bytes) ≡ run in_name l.bytes }
