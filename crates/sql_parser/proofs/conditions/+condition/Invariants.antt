use Rattle.std.proofs.Common.{◌∷◌, [], length, ◌+◌, ◌*◌}
use Rattle.sql_lexer.specs.Lexemes.{lexemes_of}
use Rattle.sql_parser.specs.inner.Reading.{all_follow, is_and, is_or, not_at, and_at}
use Rattle.sql_parser.proofs.Loops.{StillReads}
use Rattle.sql_parser.proofs.conditions.+condition.Given as goal

abbrev pub decreases-not : goal.decreases-not
decreases-not l = 6 * l.depth

abbrev pub decreases-negation : goal.decreases-negation
decreases-negation l = 6 * l.deeper + 5

abbrev pub decreases-ands : goal.decreases-ands
decreases-ands l = 6 * l.depth + 1

abbrev pub decreases-and : goal.decreases-and
decreases-and l = 6 * l.depth + 2

abbrev pub decreases-ors : goal.decreases-ors
decreases-ors l = 6 * l.depth + 3

abbrev pub decreases-or : goal.decreases-or
decreases-or l = 6 * l.depth + 4

abbrev pub invariant-ands-loop-after : goal.invariant-ands-loop-after
invariant-ands-loop-after l =
    StillReads is_and (not_at l.depth) l.members (lexemes_of l.text l.rest) (all_follow is_and (not_at l.depth) (l.fn.first ∷ []) (lexemes_of l.text l.tokens))

abbrev pub decreases-ands-loop-after : goal.decreases-ands-loop-after
decreases-ands-loop-after l = length l.rest

abbrev pub invariant-ors-loop-after : goal.invariant-ors-loop-after
invariant-ors-loop-after l =
    StillReads is_or (and_at l.depth) l.members (lexemes_of l.text l.rest) (all_follow is_or (and_at l.depth) (l.fn.first ∷ []) (lexemes_of l.text l.tokens))

abbrev pub decreases-ors-loop-after : goal.decreases-ors-loop-after
decreases-ors-loop-after l = length l.rest
