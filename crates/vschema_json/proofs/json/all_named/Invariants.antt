use Rattle.std.proofs.Common.{◌≡◌, map, bytes_eq}
use Rattle.std.specs.List.{list_all, list_any}
use Rattle.serde_json.specs.View.{members_view}
use Rattle.vschema_json.specs.Json.{named_values}
use Rattle.vschema_json.proofs.json.all_named.Given as goal

abbrev pub invariant-loop-name : goal.invariant-loop-name
invariant-loop-name l =
    list_all (λ m. list_any (bytes_eq m.0) (map (λ n. n.now) l.names)) (named_values (members_view l.name-iterator))
    ≡ list_all (λ m. list_any (bytes_eq m.0) (map (λ n. n.now) l.names)) (named_values (members_view l.members.entries))
