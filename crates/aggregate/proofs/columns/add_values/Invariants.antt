use Rattle.std.proofs.Common.{◌≡◌, ◌++◌, drop, reverse, take}
use Rattle.aggregate.specs.inner.Columns.{with_values, CanJoinAll}
use Rattle.aggregate.proofs.columns.add_values.Given as goal

-- the parts so far, and what the others will be, are all; and the values of the others are left
abbrev pub invariant-loop-i : goal.invariant-loop-i
invariant-loop-i l = record {
  all : take l.i l.parts ++ with_values (drop l.i l.aggregates) (drop l.i l.parts) (drop l.i (reverse l.fn.values.items))
      ≡ with_values l.aggregates l.fn.parts (reverse l.fn.values.items);
  left : reverse l.values.items ≡ drop l.i (reverse l.fn.values.items);
  holds : CanJoinAll (drop l.i l.aggregates) (drop l.i l.parts) (drop l.i (reverse l.fn.values.items));
}
