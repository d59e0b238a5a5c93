use Rattle.std.proofs.Common.{◌≡◌, ◌+◌, drop}
use Rattle.sql_lexer.specs.Lexemes.{is_digit}
use Rattle.sql_lexer.specs.inner.Scanning.{run}
use Rattle.client_statements.proofs.tokens.byte.number_len.Given as goal

abbrev pub invariant-loop-byte : goal.invariant-loop-byte
invariant-loop-byte l = record { index : l.count ≡ l.byte-index; rest : l.count + run is_digit (drop l.byte-index l.bytes) ≡ run is_digit l.bytes }
