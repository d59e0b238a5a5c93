use Rattle.std.proofs.Common.{◌≡◌, take, map}
use Rattle.sql_eval.specs.Grouping.{shown_ordinal}
use Rattle.sql_eval.proofs.queries.shown_ordinals.Given as goal

abbrev pub invariant-loop-item : goal.invariant-loop-item
invariant-loop-item l = l.ordinals ≡ map shown_ordinal (take l.item-index l.items)
