use Rattle.std.proofs.Common.{length}
use Rattle.sql_lexer.specs.Lexemes.{lexemes_of}
use Rattle.sql_parser.specs.inner.Reading.{assignment_at, all_follow, is_comma}
use Rattle.sql_parser.proofs.Loops.{StillReads}
use Rattle.sql_parser.proofs.writes.assignments.Given as goal

abbrev pub invariant-loop-after : goal.invariant-loop-after
invariant-loop-after l =
    StillReads is_comma assignment_at l.assignments
    (lexemes_of l.text l.rest)
    (all_follow is_comma assignment_at l.initial.assignments (lexemes_of l.text l.initial.rest))

abbrev pub decreases-loop-after : goal.decreases-loop-after
decreases-loop-after l = length l.rest
