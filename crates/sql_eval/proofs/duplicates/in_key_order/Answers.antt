use Rattle.std.proofs.Common.{IsPermutation, List, subst, Bor, map}
use Rattle.std.proofs.lemmas.List.Sorted.{IsPermutation-map}
use Rattle.vt_value.specs.Values.{Row}
use Rattle.sql_eval.proofs.duplicates.in_key_order.Goals as goal

pub returns-in-Ok-clause-permutation : goal.returns-in-Ok-clause-permutation
returns-in-Ok-clause-permutation c =
    let after = c.sort.new.rows.items in
    subst (λ (l : List Row). IsPermutation l (map (λ (b : Bor Row). b.now) after)) c.in_ok-list.ensures.ok
    (IsPermutation-map (λ (b : Bor Row). b.now) c.in_ok-list.list.items after c.sort.ensures.permutation)
