use Rattle.std.proofs.Common.{take}
use Rattle.std.specs.Prelude.{Contains}
use Rattle.std.specs.List.{AllByRecursion}
use Rattle.reshard_create.specs.inner.Created.{AreNamed}
use Rattle.reshard_create.proofs.partition_parts.choose.Given as goal

-- the parts so far
abbrev pub invariant-loop-part : goal.invariant-loop-part
invariant-loop-part g l = record {
  are : AreNamed l.ranges (take l.part-index l.parts) l.chosen.taken.items l.chosen.rest.items;
  from : AllByRecursion (Contains l.parts) l.chosen.taken.items;
  among : AllByRecursion (Contains l.parts) l.chosen.rest.items;
}
