use Rattle.std.proofs.Common.{◌≡◌, map}
use Rattle.serde_json.specs.View.{members_view}
use Rattle.vschema_json.specs.Json.{all_some, named_values}
use Rattle.vschema_json.proofs.Lists.{resumed}
use Rattle.vschema_json.proofs.json.read_members.Given as goal

abbrev pub invariant-loop-name : goal.invariant-loop-name
invariant-loop-name g l =
    resumed l.found (all_some (map (λ m. g.T.Member.reads m.0 m.1) (named_values (members_view l.name-iterator))))
    ≡ all_some (map (λ m. g.T.Member.reads m.0 m.1) (named_values (members_view l.members.entries)))
