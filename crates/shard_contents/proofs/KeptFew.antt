-- Few steps are kept: of each source one that followed and one Copy.
use Rattle.std.proofs.Common.{◌≡◌, ℕ, ◌+◌, ◌≤◌, Bool, true, false, cond, not, ◌==◌, List, [], ◌∷◌, ◌++◌, length, filter, refl, sym, ap, ◌∙◌, arith, length-append}
use Rattle.std.proofs.lemmas.Bool.{eqb-true, eq-eqb}
use Rattle.std.proofs.lemmas.List.Elements.{filter-append}
use Rattle.shard_contents.specs.declared.target_steps.TargetStep.{TargetStep}
use Rattle.shard_contents.specs.declared.target_steps.TargetStep.TheVariants.{Followed, Copied}
use Rattle.shard_contents.specs.Kept.{is_copy_from, supersedes, keep, kept_from}

none_left : (p t : TargetStep → Bool) → ((y : TargetStep) → p y ≡ true → t y ≡ false) → (steps : List TargetStep) → filter p (filter t steps) ≡ []
none_left p t out [] = refl
none_left p t out (y ∷ steps) = by (t y) refl (p y) refl (none_left p t out steps)
  where
    by : (a : Bool) → t y ≡ a → (b : Bool) → p y ≡ b → filter p (filter t steps) ≡ [] → filter p (cond (t y) (y ∷ filter t steps) (filter t steps)) ≡ []
    by false i b j none = ap (λ a. filter p (cond a (y ∷ filter t steps) (filter t steps))) i ∙ none
    by true i false j none =
        ap (λ a. filter p (cond a (y ∷ filter t steps) (filter t steps))) i ∙ ap (λ b. cond b (y ∷ filter p (filter t steps)) (filter p (filter t steps))) j ∙ none
    by true i true j none = absurd (cc (sym i ∙ out y j))

few_left : (p t : TargetStep → Bool) (steps : List TargetStep) → length (filter p (filter t steps)) ≤ length (filter p steps)
few_left p t [] = omega arith
few_left p t (y ∷ steps) = by (t y) refl (p y) refl (few_left p t steps)
  where
    by : (a : Bool) → t y ≡ a → (b : Bool) → p y ≡ b → length (filter p (filter t steps)) ≤ length (filter p steps)
        → length (filter p (cond (t y) (y ∷ filter t steps) (filter t steps))) ≤ length (cond (p y) (y ∷ filter p steps) (filter p steps))
    by false i false j few =
        let h = ap (λ a. length (filter p (cond a (y ∷ filter t steps) (filter t steps)))) i in
        let k = ap (λ b. length (cond b (y ∷ filter p steps) (filter p steps))) j in
        omega (arith, h, k, few)
    by false i true j few =
        let h = ap (λ a. length (filter p (cond a (y ∷ filter t steps) (filter t steps)))) i in
        let k = ap (λ b. length (cond b (y ∷ filter p steps) (filter p steps))) j in
        omega (arith, h, k, few)
    by true i false j few =
        let h = ap (λ a. length (filter p (cond a (y ∷ filter t steps) (filter t steps)))) i in
        let l = ap (λ b. length (cond b (y ∷ filter p (filter t steps)) (filter p (filter t steps)))) j in
        let k = ap (λ b. length (cond b (y ∷ filter p steps) (filter p steps))) j in
        omega (arith, h, l, k, few)
    by true i true j few =
        let h = ap (λ a. length (filter p (cond a (y ∷ filter t steps) (filter t steps)))) i in
        let l = ap (λ b. length (cond b (y ∷ filter p (filter t steps)) (filter p (filter t steps)))) j in
        let k = ap (λ b. length (cond b (y ∷ filter p steps) (filter p steps))) j in
        omega (arith, h, l, k, few)

module _ (p : TargetStep → Bool) (over : (x y : TargetStep) → p x ≡ true → p y ≡ true → supersedes x y ≡ true) where
  one : (x : TargetStep) (kept : List TargetStep) → length (filter p kept) ≤ 1 → length (filter p (keep x kept)) ≤ 1
  one x kept few = by (p x) refl
    where
      rest : List TargetStep
      rest = filter (λ y. not (supersedes x y)) kept

      by : (b : Bool) → p x ≡ b → length (filter p (rest ++ x ∷ [])) ≤ 1
      by b i =
          let both = ap length (filter-append p rest (x ∷ [])) ∙ length-append (filter p rest) (filter p (x ∷ [])) in
          let end = ap (λ c. length (cond c (x ∷ []) [])) i in
          at b i both end
        where
          at : (b : Bool) → p x ≡ b → length (filter p (rest ++ x ∷ [])) ≡ length (filter p rest) + length (filter p (x ∷ []))
              → length (filter p (x ∷ [])) ≡ length (cond b (x ∷ []) []) → length (filter p (rest ++ x ∷ [])) ≤ 1
          at true i both end =
              let none = ap length (none_left p (λ y. not (supersedes x y)) (λ y passes. ap not (over x y i passes)) kept) in
              omega (arith, both, end, none)
          at false i both end = let less = few_left p (λ y. not (supersedes x y)) kept in omega (arith, both, end, less, few)

  pub kept_once : (kept steps : List TargetStep) → length (filter p kept) ≤ 1 → length (filter p (kept_from kept steps)) ≤ 1
  kept_once kept [] few = few
  kept_once kept (x ∷ steps) few = kept_once (keep x kept) steps (one x kept few)

abbrev pub has_followed : ℕ → TargetStep → Bool
has_followed source (Followed from place) = from == source
has_followed source (Copied from of place last row) = false

follow_over : (source : ℕ) (x y : TargetStep) → has_followed source x ≡ true → has_followed source y ≡ true → supersedes x y ≡ true
follow_over source (Followed a p) (Followed b q) i j = eq-eqb a b (eqb-true a source i ∙ sym (eqb-true b source j))
follow_over source (Followed a p) (Copied b t q l r) i j = absurd (cc j)
follow_over source (Copied a t p l r) y i j = absurd (cc i)

copy_over : (source : ℕ) (x y : TargetStep) → is_copy_from source x ≡ true → is_copy_from source y ≡ true → supersedes x y ≡ true
copy_over source (Followed a p) y i j = absurd (cc i)
copy_over source (Copied a t p l r) (Followed b q) i j = absurd (cc j)
copy_over source (Copied a t p l r) (Copied b u q m w) i j = eq-eqb a b (eqb-true a source i ∙ sym (eqb-true b source j))

-- however many steps there were, one that followed the source is kept at most, and one Copy from it
pub followed_once : (source : ℕ) (steps : List TargetStep) → length (filter (has_followed source) (kept_from [] steps)) ≤ 1
followed_once source steps = kept_once (has_followed source) (follow_over source) [] steps (omega arith)

pub copied_once : (source : ℕ) (steps : List TargetStep) → length (filter (is_copy_from source) (kept_from [] steps)) ≤ 1
copied_once source steps = kept_once (is_copy_from source) (copy_over source) [] steps (omega arith)
