use Rattle.std.proofs.Common.{◌≡◌, take, map}
use Rattle.vschema.specs.Resolved.{resolved_condition}
use Rattle.vschema.proofs.resolve.+condition.Given as goal

abbrev pub invariant-resolve_members-loop-member : goal.invariant-resolve_members-loop-member
invariant-resolve_members-loop-member l = l.resolved ≡ map (resolved_condition l.scope) (take l.member-index l.members)
