use Rattle.std.proofs.Common.{◌≡◌, take, map}
use Rattle.vschema.specs.Resolved.{resolved_key}
use Rattle.vschema.proofs.resolve.resolve_keys.Given as goal

abbrev pub invariant-loop-key : goal.invariant-loop-key
invariant-loop-key l = l.resolved ≡ map (resolved_key l.scope) (take l.key-index l.keys)
