use Rattle.std.proofs.Common.{◌≡◌, ◌∙◌, sym, ap, Bor, List, map, subst, rules, false}
use Rattle.std.specs.Prelude.{IsSorted}
use Rattle.std.specs.List.{list_any}
use Rattle.std.proofs.lemmas.Fn.{always_returns_same}
use Rattle.vt_value.specs.declared.value.Value.{Value}
use Rattle.vt_value.specs.declared.value.Comparison.TheVariants.{Eq}
use Rattle.vt_value.specs.Values.{value_cmp, compare, is_true, is_null}
use Rattle.aggregate.proofs.OrderLemmas.{value_cmp-total}
use Rattle.sql_eval.specs.KeyOrder.{on_lent}
use Rattle.sql_eval.proofs.Lent.{found, rising}
use Rattle.sql_eval.proofs.Members.{null_is_none, equal_among}
use Rattle.sql_eval.proofs.filters.Sorted.has_equal.Goals as goal

pub returns-then-is_null_value : goal.returns-then-is_null_value
returns-then-is_null_value c = sym (null_is_none c.args.value.now (sym c.is_null_value.ensures ∙ c.if-is_null_value.true) c.args.self.now)

pub returns : goal.returns
returns c =
    let v = c.args.value.now in
    let bs = c.as_slice.result.now in
    let searched = c.binary_search_by.ensures.position (λ (b : Bor Value). value_cmp b.now v)
    (always_returns_same _ (λ a r. r ≡ value_cmp a.0.now.now v) _ (λ a r q k. search rules)) in
    let up = rising value_cmp value_cmp-total bs v (subst (IsSorted (on_lent value_cmp)) (sym c.as_slice.ensures.value) c.self.invariant) in
    let given : is_null v ≡ false = sym c.is_null_value.ensures ∙ c.if-is_null_value.false in
    c.is_ok.ensures.value ∙ found (λ (b : Bor Value). value_cmp b.now v) bs c.binary_search_by.result up c.binary_search_by.ensures.bound searched
    ∙ equal_among v given bs
    ∙ ap (λ (l : List (Bor Value)). list_any (λ m. is_true (compare Eq v m)) (map (λ (b : Bor Value). b.now) l)) c.as_slice.ensures.value
    ∙ ap (list_any (λ m. is_true (compare Eq v m))) (search rules)
