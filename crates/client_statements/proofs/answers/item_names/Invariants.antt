use Rattle.std.proofs.Common.{◌≡◌, map, take}
use Rattle.client_statements.proofs.answers.item_names.Given as goal

abbrev pub invariant-loop-item : goal.invariant-loop-item
invariant-loop-item l = l.names ≡ map (λ i. i.name) (take l.item-index l.items)
