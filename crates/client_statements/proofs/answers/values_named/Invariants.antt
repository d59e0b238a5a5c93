use Rattle.std.proofs.Common.{◌≡◌, map, take}
use Rattle.client_statements.specs.Answers.{value_named}
use Rattle.client_statements.proofs.answers.values_named.Given as goal

abbrev pub invariant-loop-item : goal.invariant-loop-item
invariant-loop-item l = l.row ≡ map (λ i. value_named l.schema l.facts i.asked) (take l.item-index l.items)
