-- The members of an AND that is true.
use Rattle.std.proofs.Common.{◌≡◌, ℕ, zero, suc, ◌<◌, List, [], ◌∷◌, length, map, get_or, refl, sym, ap, ◌∙◌, true, arith}
use Rattle.vt_value.specs.declared.value.Truth.{Truth}
use Rattle.vt_value.specs.declared.value.Truth.TheVariants.{True, False, Unknown}
use Rattle.vt_value.specs.Values.{Row, is_true, all_true, truth_and}
use Rattle.sql_tree.specs.declared.Condition.{Condition, And}
use Rattle.sql_eval.specs.Conditions.{truth_at}
use Rattle.sql_eval.proofs.ConditionLemmas.{truth_at-And}

both_true : (s t : Truth) → is_true (truth_and s t) ≡ true → (is_true s ≡ true) × (is_true t ≡ true)
both_true True t e = (refl, e)
both_true False t e = cc
both_true Unknown True e = cc
both_true Unknown False e = cc
both_true Unknown Unknown e = cc

-- a conjunct of a condition that is true
pub one_true : {X : Type 0} (f : X → Truth) (xs : List X) (i : ℕ) (x : X) → i < length xs → x ≡ get_or xs i x → is_true (all_true (map f xs)) ≡ true
    → is_true (f x) ≡ true
one_true f [] i x l is e = absurd (omega (arith, l))
one_true f (y ∷ xs) zero x l is e = ap (λ z. is_true (f z)) is ∙ (both_true (f y) (all_true (map f xs)) e).0
one_true f (y ∷ xs) (suc i) x l is e = one_true f xs i x (omega (arith, l)) is (both_true (f y) (all_true (map f xs)) e).1

-- the members of an AND that is true
pub all_members : (p : Row) (c : Condition ℕ) (ds gs : List (Condition ℕ)) → c ≡ And ds → gs ≡ ds → is_true (truth_at p c) ≡ true
    → is_true (all_true (map (truth_at p) gs)) ≡ true
all_members p c ds gs is same e =
    ap (λ (x : List (Condition ℕ)). is_true (all_true (map (truth_at p) x))) same
    ∙ ap is_true (sym (ap (truth_at p) is ∙ truth_at-And p ds)) ∙ e
