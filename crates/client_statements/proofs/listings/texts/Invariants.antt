use Rattle.std.proofs.Common.{◌≡◌, map, take}
use Rattle.std.specs.Prelude.{option_map}
use Rattle.client_statements.specs.Answers.{cell}
use Rattle.client_statements.proofs.listings.texts.Given as goal

abbrev pub invariant-loop-text : goal.invariant-loop-text
invariant-loop-text l = l.row ≡ map (λ text. cell (option_map (λ t. t.now) text)) (take l.text-index l.cells)
