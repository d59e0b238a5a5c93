-- Whether new rows and others have what a test of two of them wants.
use Rattle.std.proofs.Common.{◌≡◌, Bool, true, false, ◌||◌, List, [], ◌∷◌, ◌++◌, refl, ap, ◌∙◌}
use Rattle.std.specs.List.{list_any}
use Rattle.std.proofs.lemmas.List.Folds.{list_any-append}
use Rattle.vt_value.specs.Values.{Row}

mixed : (a b c d : Bool) → ((a || b) || (c || d)) ≡ ((a || c) || (b || d))
mixed true b true d = refl
mixed true b false d = refl
mixed false true true d = refl
mixed false true false d = refl
mixed false false c d = refl

any_or : (p q : Row → Bool) (xs : List Row) → list_any (λ x. p x || q x) xs ≡ (list_any p xs || list_any q xs)
any_or p q [] = refl
any_or p q (x ∷ xs) = ap (λ b. (p x || q x) || b) (any_or p q xs) ∙ mixed (p x) (q x) (list_any p xs) (list_any q xs)

none_any : (xs : List Row) → list_any (λ x. false) xs ≡ false
none_any [] = refl
none_any (x ∷ xs) = none_any xs

module _ (f : Row → Row → Bool) where
  abbrev pub any_two : List Row → List Row → Bool
  any_two rows new = list_any (λ n. list_any (f n) rows) new

  pub two_lists : (xs ys new : List Row) → any_two (xs ++ ys) new ≡ (any_two xs new || any_two ys new)
  two_lists xs ys new =
      (λ i. list_any (λ n. list_any-append (f n) xs ys i) new) ∙ any_or (λ n. list_any (f n) xs) (λ n. list_any (f n) ys) new

  -- the rows are looked for among the new ones
  pub turned_two : (rows new : List Row) → list_any (λ r. list_any (λ n. f n r) new) rows ≡ any_two rows new
  turned_two rows [] = none_any rows
  turned_two rows (n ∷ new) =
      any_or (f n) (λ r. list_any (λ n. f n r) new) rows ∙ ap (λ b. list_any (f n) rows || b) (turned_two rows new)
