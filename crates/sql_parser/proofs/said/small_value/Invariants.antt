use Rattle.std.proofs.Common.{◌≡◌, ◌<◌, ◌-◌, length, drop}
use Rattle.sql_lexer.specs.Lexemes.{digits_onto}
use Rattle.sql_parser.proofs.Digits.{room}
use Rattle.sql_parser.proofs.said.small_value.Given as goal

abbrev pub invariant-loop-digit : goal.invariant-loop-digit
invariant-loop-digit l = record {
  fits : l.value < room (length l.digits - l.digit-index);
  reads : digits_onto l.value (drop l.digit-index l.digits) ≡ digits_onto 0 l.digits;
}
