use Rattle.std.proofs.Common.{◌≡◌, ◌++◌, drop, map, filter, ◌&&◌}
use Rattle.std.specs.Prelude.{zip}
use Rattle.vschema.specs.Resolved.{ordinals_from}
use Rattle.planner.specs.Routes.{is_sharded, takes, taken_ordinals}
use Rattle.planner.proofs.taking.shards.Given as goal

abbrev pub invariant-loop-ordinal : goal.invariant-loop-ordinal
invariant-loop-ordinal l =
    l.ordinals.items
    ++ map (λ p. p.0) (filter (λ p. is_sharded l.route && takes l.table l.route p.1) (zip (ordinals_from l.ordinal (drop l.ordinal l.ranges)) (drop l.ordinal l.ranges)))
    ≡ taken_ordinals l.table l.route l.ranges
