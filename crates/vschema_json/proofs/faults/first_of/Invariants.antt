use Rattle.std.proofs.Common.{◌≡◌, drop}
use Rattle.std.specs.List.{find}
use Rattle.vschema_json.specs.Faults.{has}
use Rattle.vschema_json.proofs.faults.first_of.Given as goal

abbrev pub invariant-loop-fault : goal.invariant-loop-fault
invariant-loop-fault l = find (λ f. has f l.keyspaces) (drop l.fault-index l.faults) ≡ find (λ f. has f l.keyspaces) l.faults
