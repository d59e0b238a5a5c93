use Rattle.std.proofs.Common.{◌≡◌, drop, map}
use Rattle.vt_value.specs.Values.{truth_and, truth_or, all_true, any_true}
use Rattle.sql_eval.specs.Conditions.{truth_at}
use Rattle.sql_eval.specs.Pairs.{seen}
use Rattle.sql_eval.proofs.conditions.+truth.Given as goal

-- what is seen so far, with the truth of the rest, is the truth of all
abbrev pub invariant-every-loop-c : goal.invariant-every-loop-c
invariant-every-loop-c l = truth_and l.t (all_true (map (truth_at (seen l.values)) (drop l.c-index l.members))) ≡ all_true (map (truth_at (seen l.values)) l.members)

abbrev pub invariant-some-loop-c : goal.invariant-some-loop-c
invariant-some-loop-c l = truth_or l.t (any_true (map (truth_at (seen l.values)) (drop l.c-index l.members))) ≡ any_true (map (truth_at (seen l.values)) l.members)
