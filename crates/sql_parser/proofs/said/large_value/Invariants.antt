use Rattle.std.proofs.Common.{◌≡◌, ◌<◌, ◌^◌, drop}
use Rattle.sql_lexer.specs.Lexemes.{digits_onto}
use Rattle.sql_parser.proofs.said.large_value.Given as goal

abbrev pub invariant-loop-digit : goal.invariant-loop-digit
invariant-loop-digit l = record { fits : l.value < 2 ^ 64; reads : digits_onto l.value (drop l.digit-index l.digits) ≡ digits_onto 0 l.digits }
