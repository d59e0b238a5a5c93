use Rattle.std.proofs.Common.{◌∙◌, ◌++◌, ◌∷◌, [], List, ap}
use Rattle.vt_value.specs.declared.value.Value.{Value}
use Rattle.key_intervals.proofs.KeyLemmas.{some_of, prefix_below}
use Rattle.key_intervals.proofs.keys.below_bound.Goals as goal

pub returns-in_ok-extended-in-Some : goal.returns-in_ok-extended-in-Some
returns-in_ok-extended-in-Some c =
    record {
      ok = λ x rest under below.
          prefix_below c.args.known.now c.in-Some.value x rest c.in_ok-extended-in-Some.field-0
          (c.in_ok-extended-in-Some.ensures.ok ∙ ap (λ (k : List Value). k ++ c.in-Some.value ∷ []) c.in_ok-known-in-Some.ensures.ok)
          (some_of _ c.in-Some.is c.in_ok-value.ensures.ok x under);
    }
