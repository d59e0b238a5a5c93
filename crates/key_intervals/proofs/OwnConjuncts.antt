-- A condition whose columns are all those of the first row is as true at a pair as at that row.
use Rattle.std.proofs.Common.{◌≡◌, ℕ, zero, suc, ◌+◌, ◌<◌, length, take, get_or, arith, Result, Ok, Err, Bool, true, false, List, [], ◌∷◌, ◌++◌, Bor, map, ◌&&◌, refl, sym, ap, ◌∙◌, subst}
use Rattle.std.specs.Prelude.{OnOk}
use Rattle.std.proofs.lemmas.Bool.{false≢true}
use Rattle.vt_value.specs.declared.value.Truth.{Truth}
use Rattle.vt_value.specs.Values.{Row, is_true, truth_not, all_true, any_true}
use Rattle.sql_tree.specs.declared.Condition.{Condition, Not, And, Or}
use Rattle.sql_eval.specs.Conditions.{truth_at}
use Rattle.sql_eval.proofs.ConditionLemmas.{truth_at-Not, truth_at-And, truth_at-Or}
use Rattle.key_intervals.specs.Conjuncts.{passes}

module _ (p r : Row) (c : Condition ℕ) where
  pub same_not : (d g : Condition ℕ) → c ≡ Not d → g ≡ d → truth_at p g ≡ truth_at r g → truth_at p c ≡ truth_at r c
  same_not d g is same h =
      let e : truth_at p d ≡ truth_at r d = subst (λ (x : Condition ℕ). truth_at p x ≡ truth_at r x) same h in
      subst (λ (x : Condition ℕ). truth_at p x ≡ truth_at r x) (sym is) (truth_at-Not p d ∙ ap truth_not e ∙ sym (truth_at-Not r d))

  pub same_and : (ds gs : List (Condition ℕ)) → c ≡ And ds → gs ≡ ds → map (truth_at p) gs ≡ map (truth_at r) gs → truth_at p c ≡ truth_at r c
  same_and ds gs is same h =
      let e : map (truth_at p) ds ≡ map (truth_at r) ds = subst (λ (x : List (Condition ℕ)). map (truth_at p) x ≡ map (truth_at r) x) same h in
      subst (λ (x : Condition ℕ). truth_at p x ≡ truth_at r x) (sym is) (truth_at-And p ds ∙ ap all_true e ∙ sym (truth_at-And r ds))

  pub same_or : (ds gs : List (Condition ℕ)) → c ≡ Or ds → gs ≡ ds → map (truth_at p) gs ≡ map (truth_at r) gs → truth_at p c ≡ truth_at r c
  same_or ds gs is same h =
      let e : map (truth_at p) ds ≡ map (truth_at r) ds = subst (λ (x : List (Condition ℕ)). map (truth_at p) x ≡ map (truth_at r) x) same h in
      subst (λ (x : Condition ℕ). truth_at p x ≡ truth_at r x) (sym is) (truth_at-Or p ds ∙ ap any_true e ∙ sym (truth_at-Or r ds))

abbrev head_or : {X : Type 0} → X → List X → X
head_or d [] = d
head_or d (x ∷ xs) = x

abbrev tail : {X : Type 0} → List X → List X
tail [] = []
tail (x ∷ xs) = xs

head_is : {X : Type 0} {x y : X} {xs ys : List X} → x ∷ xs ≡ y ∷ ys → x ≡ y
head_is {X} {x} e = ap (head_or x) e

tail_is : {X : Type 0} {x y : X} {xs ys : List X} → x ∷ xs ≡ y ∷ ys → xs ≡ ys
tail_is e = ap tail e

-- one condition more
pub passes_more : (own : List (Bor (Condition ℕ))) (c : Bor (Condition ℕ)) (row : Row) → passes own row ≡ true → is_true (truth_at row c.now) ≡ true
    → passes (own ++ c ∷ []) row ≡ true
passes_more [] c row all one = ap (λ b. b && true) one
passes_more (d ∷ own) c row all one = by (λ rest. passes_more own c row rest one) (is_true (truth_at row d.now)) refl
  where
    by : (passes own row ≡ true → passes (own ++ c ∷ []) row ≡ true) → (b : Bool) → is_true (truth_at row d.now) ≡ b
        → (is_true (truth_at row d.now) && passes (own ++ c ∷ []) row) ≡ true
    by ih true e =
        let rest : passes own row ≡ true = rw e at all in
        rw e (ih rest)
    by ih false e =
        let none : false ≡ true = rw e at all in
        absurd (false≢true none)

-- one member more
pub same_next : (f g : Condition ℕ → Truth) (xs : List (Condition ℕ)) (i : ℕ) (x : Condition ℕ) → i < length xs → x ≡ get_or xs i x → f x ≡ g x
    → map f (take i xs) ≡ map g (take i xs) → map f (take (i + 1) xs) ≡ map g (take (i + 1) xs)
same_next f g [] i x l is e all = absurd (omega (arith, l))
same_next f g (y ∷ xs) zero x l is e all = ap (λ t. t ∷ []) (ap f (sym is) ∙ e ∙ ap g is)
same_next f g (y ∷ xs) (suc i) x l is e all =
    let n : suc i + 1 ≡ suc (i + 1) = omega arith in
    let rest = same_next f g xs i x (omega (arith, l)) is e (tail_is all) in
    rw n (ap (λ t. t ∷ map f (take (i + 1) xs)) (head_is all) ∙ ap (λ ts. g y ∷ ts) rest)

pub ok_weaker : {X E P Q : Type 0} (r : Result X E) → (P → Q) → OnOk r P → OnOk r Q
ok_weaker (Ok x) f h = f h
ok_weaker (Err e) f h = h
