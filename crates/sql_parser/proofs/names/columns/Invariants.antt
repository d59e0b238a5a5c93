use Rattle.std.proofs.Common.{length}
use Rattle.sql_lexer.specs.Lexemes.{lexemes_of}
use Rattle.sql_parser.specs.inner.Reading.{column_at, all_follow, is_comma}
use Rattle.sql_parser.proofs.Loops.{StillReads}
use Rattle.sql_parser.proofs.names.columns.Given as goal

abbrev pub invariant-loop-after : goal.invariant-loop-after
invariant-loop-after l =
    StillReads is_comma column_at l.columns
    (lexemes_of l.text l.rest)
    (all_follow is_comma column_at l.initial.columns (lexemes_of l.text l.initial.rest))

abbrev pub decreases-loop-after : goal.decreases-loop-after
decreases-loop-after l = length l.rest
