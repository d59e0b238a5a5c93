use Rattle.std.proofs.Common.{◌≡◌, ◌+◌, drop}
use Rattle.sql_lexer.specs.Lexemes.{is_word_byte}
use Rattle.sql_lexer.specs.inner.Scanning.{run, code_from}
use Rattle.sql_lexer.proofs.byte.word_code.Given as goal

abbrev pub invariant-loop-count : goal.invariant-loop-count
invariant-loop-count l = record {
  length : l.count + run is_word_byte (drop l.count l.bytes) ≡ run is_word_byte l.bytes;
  code : code_from l.code (drop l.count l.bytes) ≡ code_from 0 l.bytes;
}
