use Rattle.std.proofs.Common.{◌≡◌, map, drop}
use Rattle.serde_json.specs.View.{view}
use Rattle.vschema_json.specs.Json.{all_some}
use Rattle.vschema_json.proofs.Lists.{resumed}
use Rattle.vschema_json.proofs.json.read_elements.Given as goal

abbrev pub invariant-loop-element : goal.invariant-loop-element
invariant-loop-element g l =
    resumed l.found (all_some (map (λ v. g.T.Element.reads (view v)) (drop l.element-index l.elements)))
    ≡ all_some (map (λ v. g.T.Element.reads (view v)) l.elements)
