use Rattle.std.proofs.Common.{length}
use Rattle.sql_lexer.specs.Lexemes.{lexemes_of}
use Rattle.sql_parser.specs.inner.Reading.{members_at, all_follow, is_comma}
use Rattle.sql_parser.proofs.Loops.{StillReads}
use Rattle.sql_parser.proofs.writes.rows.Given as goal

abbrev pub invariant-loop-after : goal.invariant-loop-after
invariant-loop-after l =
    StillReads is_comma members_at l.rows
    (lexemes_of l.text l.rest)
    (all_follow is_comma members_at l.initial.rows (lexemes_of l.text l.initial.rest))

abbrev pub decreases-loop-after : goal.decreases-loop-after
decreases-loop-after l = length l.rest
