use Rattle.std.proofs.Common.{◌≡◌, ◌++◌, drop, filter}
use Rattle.vschema.specs.Checks.{is_aggregate}
use Rattle.sql_eval.proofs.groups.aggregates_of.Given as goal

-- the list so far, with what the other items give, is all
abbrev pub invariant-loop-item : goal.invariant-loop-item
invariant-loop-item l = l.list ++ filter is_aggregate (drop l.item-index l.items) ≡ filter is_aggregate l.items
