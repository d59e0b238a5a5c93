use Rattle.std.proofs.Common.{◌≡◌, ◌++◌, length}
use Rattle.sql_lexer.specs.Lexemes.{unescaped}
use Rattle.sql_parser.proofs.unescaping.unescaped.Given as goal

abbrev pub invariant-loop-rest : goal.invariant-loop-rest
invariant-loop-rest l = l.said.items ++ unescaped l.rest ≡ unescaped l.body

abbrev pub decreases-loop-rest : goal.decreases-loop-rest
decreases-loop-rest l = length l.rest
