use Rattle.std.proofs.Common.{◌≡◌}
use Rattle.std.specs.List.{range_with_len}
use Rattle.admin.proofs.router.setup.opening_keyspaces.Given as goal

-- those of the keyspaces so far
abbrev pub invariant-loop-keyspace : goal.invariant-loop-keyspace
invariant-loop-keyspace g l = l.all.items ≡ range_with_len 0 l.keyspace
