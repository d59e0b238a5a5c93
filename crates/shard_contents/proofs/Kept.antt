-- The steps that are kept tell what all of them told.
use Rattle.std.proofs.Common.{◌≡◌, ℕ, Bool, true, false, cond, not, ◌==◌, List, [], ◌∷◌, ◌++◌, ◌⊎◌, inl, inr, filter, refl, sym, ap, ◌∙◌}
use Rattle.std.proofs.lemmas.Bool.{eqb-true}
use Rattle.shard_contents.specs.declared.target_steps.TargetStep.{TargetStep}
use Rattle.shard_contents.specs.declared.target_steps.TargetStep.TheVariants.{Followed, Copied}
use Rattle.shard_contents.specs.inner.Progress.{source_of}
use Rattle.shard_contents.specs.Kept.{is_copy_from, supersedes, keep, kept_from}

pub kept-push : (kept steps : List TargetStep) (x : TargetStep) → kept_from kept (steps ++ x ∷ []) ≡ keep x (kept_from kept steps)
kept-push kept [] x = refl
kept-push kept (y ∷ steps) x = kept-push (keep y kept) steps x

not_none : (steps : List TargetStep) (x : TargetStep) → steps ++ x ∷ [] ≡ [] → ⊥
not_none [] x is = cc is
not_none (y ∷ steps) x is = cc is

kept-nil : (kept steps : List TargetStep) → kept_from kept steps ≡ [] → (kept ≡ []) × (steps ≡ [])
kept-nil kept [] none = (none, refl)
kept-nil kept (x ∷ steps) none = absurd (not_none (filter (λ y. not (supersedes x y)) kept) x (kept-nil (keep x kept) steps none).0)

-- where nothing is kept there was no step
pub kept_none : (steps : List TargetStep) → kept_from [] steps ≡ [] → steps ≡ []
kept_none steps none = (kept-nil [] steps none).1

-- ---- what a walk over the steps tells

abbrev pub walked : {A : Type 0} → (A → TargetStep → A) → A → List TargetStep → A
walked g p [] = p
walked g p (x ∷ steps) = walked g (g p x) steps

walked-push : {A : Type 0} (g : A → TargetStep → A) (p : A) (steps : List TargetStep) (x : TargetStep) → walked g p (steps ++ x ∷ []) ≡ g (walked g p steps) x
walked-push g p [] x = refl
walked-push g p (y ∷ steps) x = walked-push g (g p y) steps x

-- a step either tells the same whatever was before it, or the steps that it supersedes tell nothing
abbrev pub Settles : {A : Type 0} → (A → TargetStep → A) → TargetStep → Type 0
Settles {A} g x = ((p q : A) → g p x ≡ g q x) ⊎ ((y : TargetStep) → supersedes x y ≡ true → (p : A) → g p y ≡ p)

dropped : {A : Type 0} (g : A → TargetStep → A) (x : TargetStep) → ((y : TargetStep) → supersedes x y ≡ true → (p : A) → g p y ≡ p) → (p : A) (steps : List TargetStep)
    → walked g p (filter (λ y. not (supersedes x y)) steps) ≡ walked g p steps
dropped g x quiet p [] = refl
dropped {A = A} g x quiet p (y ∷ steps) = by (supersedes x y) refl (λ q. dropped g x quiet q steps)
  where
    rest : List TargetStep
    rest = filter (λ z. not (supersedes x z)) steps

    by : (b : Bool) → supersedes x y ≡ b → ((q : A) → walked g q rest ≡ walked g q steps) → walked g p (cond (not (supersedes x y)) (y ∷ rest) rest) ≡ walked g (g p y) steps
    by false i same = ap (λ b. walked g p (cond (not b) (y ∷ rest) rest)) i ∙ same (g p y)
    by true i same = ap (λ b. walked g p (cond (not b) (y ∷ rest) rest)) i ∙ same p ∙ ap (λ q. walked g q steps) (sym (quiet y i p))

kept_one : {A : Type 0} (g : A → TargetStep → A) (x : TargetStep) → Settles g x → (p : A) (steps : List TargetStep) → walked g p (keep x steps) ≡ g (walked g p steps) x
kept_one g x (inl over) p steps =
    walked-push g p (filter (λ y. not (supersedes x y)) steps) x ∙ over (walked g p (filter (λ y. not (supersedes x y)) steps)) (walked g p steps)
kept_one g x (inr quiet) p steps =
    walked-push g p (filter (λ y. not (supersedes x y)) steps) x ∙ ap (λ q. g q x) (dropped g x quiet p steps)

kept_walk : {A : Type 0} (g : A → TargetStep → A) → ((x : TargetStep) → Settles g x) → (p : A) (kept steps : List TargetStep)
    → walked g p (kept_from kept steps) ≡ walked g (walked g p kept) steps
kept_walk g all p kept [] = refl
kept_walk g all p kept (x ∷ steps) = kept_walk g all p (keep x kept) steps ∙ ap (λ q. walked g q steps) (kept_one g x (all x) p kept)

pub walk_told : {A : Type 0} (g : A → TargetStep → A) → ((x : TargetStep) → Settles g x) → (p : A) (steps : List TargetStep) → walked g p (kept_from [] steps) ≡ walked g p steps
walk_told g all p steps = kept_walk g all p [] steps

-- ---- what is superseded

pub same_source : (x y : TargetStep) → supersedes x y ≡ true → source_of x ≡ source_of y
same_source x (Followed source place) is = eqb-true (source_of x) source is
same_source (Followed from at) (Copied source table place last row) is = absurd (cc is)
same_source (Copied from of at end some) (Copied source table place last row) is = eqb-true from source is

-- where a step is no Copy from a source, none of those that it supersedes is
pub no_copy : (source : ℕ) (x y : TargetStep) → is_copy_from source x ≡ false → supersedes x y ≡ true → is_copy_from source y ≡ false
no_copy source x (Followed from place) other is = refl
no_copy source x (Copied from table place last row) other is = by (from == source) refl
  where
    by : (b : Bool) → (from == source) ≡ b → (from == source) ≡ false
    by false e = e
    by true e = absurd (cc (ap (λ n. is_copy_from n x) (sym (eqb-true from source e)) ∙ is, other))
