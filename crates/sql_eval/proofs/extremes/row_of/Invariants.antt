use Rattle.std.proofs.Common.{◌≡◌, map, take}
use Rattle.sql_eval.proofs.extremes.row_of.Given as goal

abbrev pub invariant-loop : goal.invariant-loop
invariant-loop l = l.row ≡ map (λ item. l.value) (take l.index l.items)
