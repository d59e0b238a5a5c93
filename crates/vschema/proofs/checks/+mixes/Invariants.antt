use Rattle.std.proofs.Common.{◌≡◌, drop, map}
use Rattle.std.specs.List.{list_any}
use Rattle.vschema.specs.inner.Mixes.{condition_mixes_at}
use Rattle.vschema.proofs.checks.+mixes.Given as goal

abbrev pub invariant-any_mixes-loop-member : goal.invariant-any_mixes-loop-member
invariant-any_mixes-loop-member l = list_any (λ b. b) (map (condition_mixes_at l.scope) (drop l.member-index l.members)) ≡ list_any (λ b. b) (map (condition_mixes_at l.scope) l.members)
