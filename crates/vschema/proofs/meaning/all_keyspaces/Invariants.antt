use Rattle.std.proofs.Common.{◌≡◌, take, map}
use Rattle.vschema.specs.Meant.{meant_keyspace}
use Rattle.vschema.proofs.meaning.all_keyspaces.Given as goal

abbrev pub invariant-loop-keyspace : goal.invariant-loop-keyspace
invariant-loop-keyspace l = l.keyspaces ≡ map meant_keyspace (take l.keyspace-index l.declared)
