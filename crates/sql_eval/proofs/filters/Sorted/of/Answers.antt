use Rattle.std.proofs.Common.{IsPermutation, List, subst, Bor, map}
use Rattle.std.proofs.lemmas.List.Sorted.{IsPermutation-map}
use Rattle.vt_value.specs.declared.value.Value.{Value}
use Rattle.sql_eval.proofs.filters.Sorted.of.Goals as goal

pub returns-in-Ok : goal.returns-in-Ok
returns-in-Ok c =
    record {
      ok = (let after = c.sort.new.values.items in
          subst (λ (l : List Value). IsPermutation l (map (λ (b : Bor Value). b.now) after)) c.in_ok-list.ensures.ok
          (IsPermutation-map (λ (b : Bor Value). b.now) c.in_ok-list.list.items after c.sort.ensures.permutation));
    }
