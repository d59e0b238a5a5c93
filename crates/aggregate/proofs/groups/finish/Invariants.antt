use Rattle.std.proofs.Common.{◌≡◌, ◌++◌, drop, take}
use Rattle.std.specs.Vec.Iter.{into_iter_items}
use Rattle.aggregate.proofs.groups.finish.Given as goal

-- so many parts have come
abbrev pub invariant-loop : goal.invariant-loop
invariant-loop l = record {
  row : l.row ≡ l.fn.values ++ take l.counter (into_iter_items l.fn.parts);
  rest : into_iter_items l.parts ≡ drop l.counter (into_iter_items l.fn.parts);
}
