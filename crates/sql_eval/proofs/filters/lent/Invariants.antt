use Rattle.std.proofs.Common.{◌≡◌, map, take}
use Rattle.sql_eval.proofs.filters.lent.Given as goal

abbrev pub invariant-loop-value : goal.invariant-loop-value
invariant-loop-value l = map (λ v. v.now) l.list.items ≡ take l.value-index l.values
