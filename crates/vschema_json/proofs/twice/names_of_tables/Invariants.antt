use Rattle.std.proofs.Common.{◌≡◌, ◌++◌, drop, map}
use Rattle.vschema_json.specs.Faults.{all_tables}
use Rattle.vschema_json.proofs.twice.names_of_tables.Given as goal

-- the names of the tables so far, and those that are to come
abbrev pub invariant-loop-keyspace : goal.invariant-loop-keyspace
invariant-loop-keyspace l =
    map (λ n. n.now) l.texts.items ++ map (λ t. t.name) (all_tables (drop l.keyspace-index l.keyspaces)) ≡ map (λ t. t.name) (all_tables l.keyspaces)
