-- What one pass took of what was taken.
use Rattle.std.proofs.Common.{◌≡◌, ◌≢◌, ℕ, ◌==◌, Bool, true, false, List, [], ◌∷◌, ◌++◌, length, sym, refl, ap, ◌∙◌, ⊎_elim, append_assoc, arith}
use Rattle.std.proofs.lemmas.List.{append-nil, length-append}
use Rattle.std.proofs.lemmas.Bool.Decides.{eqb_tells}
use Rattle.connection_workers.specs.Order.{with_first, taken_by, StartsWith}

same_number : (n : ℕ) → (n == n) ≡ true
same_number n = ⊎_elim (λ (t : ((n == n) ≡ true) × (n ≡ n)). t.0) (λ (t : ((n == n) ≡ false) × (n ≢ n)). absurd (t.1 refl)) (eqb_tells n n)

other_number : (m n : ℕ) → n ≢ m → (m == n) ≡ false
other_number m n apart = ⊎_elim (λ (t : ((m == n) ≡ true) × (m ≡ n)). absurd (apart (sym t.1))) (λ (t : ((m == n) ≡ false) × (m ≢ n)). t.0) (eqb_tells m n)

module _ {T : Type 0} where
  first_append : (b : Bool) (y : T) (xs ys : List T) → with_first b y (xs ++ ys) ≡ with_first b y xs ++ ys
  first_append true y xs ys = refl
  first_append false y xs ys = refl

  pub taken_by-append : (pass : ℕ) (front rest : List (ℕ × T)) → taken_by pass (front ++ rest) ≡ taken_by pass front ++ taken_by pass rest
  taken_by-append pass [] rest = refl
  taken_by-append pass (y ∷ front) rest =
      ap (with_first (y.0 == pass) y.1) (taken_by-append pass front rest) ∙ first_append (y.0 == pass) y.1 (taken_by pass front) (taken_by pass rest)

  pub taken_same : (pass : ℕ) (taken : List (ℕ × T)) (x : T) → taken_by pass (taken ++ (pass, x) ∷ []) ≡ taken_by pass taken ++ x ∷ []
  taken_same pass taken x = taken_by-append pass taken ((pass, x) ∷ []) ∙ ap (λ b. taken_by pass taken ++ with_first b x []) (same_number pass)

  pub taken_other : (pass by : ℕ) (taken : List (ℕ × T)) (x : T) → by ≢ pass → taken_by by (taken ++ (pass, x) ∷ []) ≡ taken_by by taken
  taken_other pass by taken x apart = taken_by-append by taken ((pass, x) ∷ [])
      ∙ ap (λ b. taken_by by taken ++ with_first b x []) (other_number pass by apart) ∙ append-nil (taken_by by taken)

  no_more : (xs ys : List T) → xs ++ ys ≡ xs → ys ≡ []
  no_more xs [] e = refl
  no_more xs (y ∷ ys) e = absurd (omega (arith, length-append xs (y ∷ ys), ap length e))

  -- what a pass took lies in a beginning, so also in each longer one
  pub taken_between : (pass : ℕ) (whole middle front : List (ℕ × T)) (own : List T) → StartsWith whole middle → StartsWith middle front
      → taken_by pass front ≡ own → taken_by pass whole ≡ own → taken_by pass middle ≡ own
  taken_between pass whole middle front own s t e d =
      let middle_is : taken_by pass middle ≡ own ++ taken_by pass t.0 = ap (taken_by pass) t.1 ∙ taken_by-append pass front t.0 ∙ ap (λ l. l ++ taken_by pass t.0) e in
      let whole_is : own ++ (taken_by pass t.0 ++ taken_by pass s.0) ≡ own =
      sym (append_assoc own (taken_by pass t.0) (taken_by pass s.0)) ∙ ap (λ l. l ++ taken_by pass s.0) (sym middle_is)
      ∙ sym (taken_by-append pass middle s.0) ∙ sym (ap (taken_by pass) s.1) ∙ d in
      let nothing : taken_by pass t.0 ++ taken_by pass s.0 ≡ [] = no_more own (taken_by pass t.0 ++ taken_by pass s.0) whole_is in
      middle_is ∙ ap (λ l. own ++ l) (front_nothing (taken_by pass t.0) (taken_by pass s.0) nothing) ∙ append-nil own
    where
      front_nothing : (xs ys : List T) → xs ++ ys ≡ [] → xs ≡ []
      front_nothing [] ys e = refl
      front_nothing (x ∷ xs) ys e = cc

  pub none_before : (pass : ℕ) (whole front : List (ℕ × T)) → StartsWith whole front → taken_by pass whole ≡ [] → taken_by pass front ≡ []
  none_before pass whole front s e = taken_between pass whole front [] [] s (front, refl) refl e
