use Rattle.std.proofs.Common.{take}
use Rattle.sql_eval.specs.inner.Narrowings.{IsSeen}
use Rattle.sql_eval.proofs.narrowed.Seen.of.Given as goal

-- the items so far
abbrev pub invariant-loop-item : goal.invariant-loop-item
invariant-loop-item l = IsSeen (take l.item-index l.items) l.seen
