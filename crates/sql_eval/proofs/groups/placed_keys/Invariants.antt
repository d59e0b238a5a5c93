use Rattle.std.proofs.Common.{◌≡◌, take, map}
use Rattle.sql_eval.specs.Grouping.{placed_key}
use Rattle.sql_eval.proofs.groups.placed_keys.Given as goal

abbrev pub invariant-loop-key : goal.invariant-loop-key
invariant-loop-key l = l.placed ≡ map (placed_key l.other l.columns) (take l.key-index l.keys)
