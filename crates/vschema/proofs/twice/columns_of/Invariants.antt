use Rattle.std.proofs.Common.{◌≡◌, take, map}
use Rattle.vschema.proofs.twice.columns_of.Given as goal

abbrev pub invariant-loop-assignment : goal.invariant-loop-assignment
invariant-loop-assignment l = map (λ n. n.now) l.texts.items ≡ map (λ a. a.column) (take l.assignment-index l.assignments)
