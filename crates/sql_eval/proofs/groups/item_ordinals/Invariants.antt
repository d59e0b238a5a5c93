use Rattle.std.proofs.Common.{◌≡◌, ◌+◌, ◌≤◌, ◌++◌, drop, length}
use Rattle.sql_eval.specs.Grouping.{item_ordinals}
use Rattle.sql_eval.proofs.groups.item_ordinals.Given as goal

-- the places so far, with those of the other items, are all
abbrev pub invariant-loop-item : goal.invariant-loop-item
invariant-loop-item l =
    (l.ordinals ++ item_ordinals l.other l.columns l.next (drop l.item-index l.items) ≡ item_ordinals l.other l.columns (length l.columns) l.items)
    × (l.next ≤ length l.columns + l.item-index)
