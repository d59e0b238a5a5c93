use Rattle.std.proofs.Common.{◌≡◌, drop, map}
use Rattle.std.specs.List.{list_any}
use Rattle.vschema.specs.Checks.{condition_names_unknown}
use Rattle.vschema.proofs.checks.+unknown.Given as goal

abbrev pub invariant-any_names_unknown-loop-member : goal.invariant-any_names_unknown-loop-member
invariant-any_names_unknown-loop-member l = list_any (λ b. b) (map (condition_names_unknown l.scope) (drop l.member-index l.members)) ≡ list_any (λ b. b) (map (condition_names_unknown l.scope) l.members)
