use Rattle.std.proofs.Common.{◌≡◌, drop, map}
use Rattle.std.specs.List.{list_any}
use Rattle.sql_parser.specs.Qualifiers.{condition_is_qualified}
use Rattle.sql_parser.proofs.qualifiers.+qualified.Given as goal

abbrev pub invariant-one_is_qualified-loop-member : goal.invariant-one_is_qualified-loop-member
invariant-one_is_qualified-loop-member l =
    list_any (λ b. b) (map condition_is_qualified (drop l.member-index l.members)) ≡ list_any (λ b. b) (map condition_is_qualified l.members)
