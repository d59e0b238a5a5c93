use Rattle.std.proofs.Common.{◌≡◌, ◌++◌, map, drop}
use Rattle.std.specs.Prelude.{filter}
use Rattle.client_statements.specs.Answers.{fits_pattern}
use Rattle.client_statements.proofs.keyspaces.keyspace_names.Given as goal

abbrev pub invariant-loop-keyspace : goal.invariant-loop-keyspace
invariant-loop-keyspace l =
    l.names.items ++ filter (fits_pattern l.like) (map (λ k. k.name) (drop l.keyspace-index l.keyspaces)) ≡ filter (fits_pattern l.like) (map (λ k. k.name) l.keyspaces)
