-- A text of modes is its first one and the others after a comma.
use Rattle.std.proofs.Common.{◌≡◌, ℕ, suc, ◌+◌, ◌<◌, Bool, true, false, cond, eqb, not, List, [], ◌∷◌, length, take, drop, refl, sym, ap, subst, ◌∙◌, arith, add-one}
use Rattle.sql_lexer.specs.inner.Scanning.{run}
use Rattle.client_statements.specs.Settings.{is_held_mode, onto_first, parts, are_held_modes}

abbrev pub no_comma : ℕ → Bool
no_comma b = not (eqb b 0x2C)

parts_whole : (text : List ℕ) → run no_comma text ≡ length text → parts text ≡ take (run no_comma text) text ∷ []
parts_whole [] h = refl
parts_whole (b ∷ text) h = go (eqb b 0x2C) refl h (parts_whole text)
  where
    go : (t : Bool) → eqb b 0x2C ≡ t → cond (not t) (suc (run no_comma text)) 0 ≡ suc (length text)
        → (run no_comma text ≡ length text → parts text ≡ take (run no_comma text) text ∷ [])
        → cond t ([] ∷ parts text) (onto_first b (parts text)) ≡ take (cond (not t) (suc (run no_comma text)) 0) (b ∷ text) ∷ []
    go true is h rec = absurd (omega arith)
    go false is h rec = rw (rec (omega arith)) refl

parts_cut : (text : List ℕ) → run no_comma text < length text → parts text ≡ take (run no_comma text) text ∷ parts (drop (suc (run no_comma text)) text)
parts_cut [] h = absurd (omega arith)
parts_cut (b ∷ text) h = go (eqb b 0x2C) refl h (parts_cut text)
  where
    go : (t : Bool) → eqb b 0x2C ≡ t → cond (not t) (suc (run no_comma text)) 0 < suc (length text)
        → (run no_comma text < length text → parts text ≡ take (run no_comma text) text ∷ parts (drop (suc (run no_comma text)) text))
        → cond t ([] ∷ parts text) (onto_first b (parts text))
        ≡ take (cond (not t) (suc (run no_comma text)) 0) (b ∷ text) ∷ parts (drop (suc (cond (not t) (suc (run no_comma text)) 0)) (b ∷ text))
    go true is h rec = refl
    go false is h rec = rw (rec (omega arith)) refl

parts_first : (text : List ℕ) → (more : List (List ℕ)) × (parts text ≡ take (run no_comma text) text ∷ more)
parts_first [] = ([], refl)
parts_first (b ∷ text) = go (eqb b 0x2C) refl (parts_first text)
  where
    go : (t : Bool) → eqb b 0x2C ≡ t → ((more : List (List ℕ)) × (parts text ≡ take (run no_comma text) text ∷ more))
        → (more : List (List ℕ)) × (cond t ([] ∷ parts text) (onto_first b (parts text)) ≡ take (cond (not t) (suc (run no_comma text)) 0) (b ∷ text) ∷ more)
    go true is rec = (parts text, refl)
    go false is rec = (rec.0, rw (rec.1) refl)

module _ (text : List ℕ) (n : ℕ) (count : n ≡ run no_comma text) where
  first_is : (held : Bool) → is_held_mode (take n text) ≡ held → is_held_mode (take (run no_comma text) text) ≡ held
  first_is held h = subst (λ (k : ℕ). is_held_mode (take k text) ≡ held) count h

  pub held_whole : n ≡ length text → is_held_mode (take n text) ≡ true → are_held_modes text ≡ true
  held_whole whole held = rw (parts_whole text (sym count ∙ whole), first_is true held) refl

  pub held_more : n < length text → is_held_mode (take n text) ≡ true → are_held_modes text ≡ are_held_modes (drop (n + 1) text)
  held_more some held =
      let cut : parts text ≡ take (run no_comma text) text ∷ parts (drop (n + 1) text) =
      subst (λ (k : ℕ). parts text ≡ take (run no_comma text) text ∷ parts (drop k text)) (ap suc (sym count) ∙ sym (add-one n))
      (parts_cut text (subst (λ (k : ℕ). k < length text) count some)) in
      rw (cut, first_is true held) refl

  pub held_not : is_held_mode (take n text) ≡ false → are_held_modes text ≡ false
  held_not held = let f = parts_first text in rw (f.1, first_is false held) refl
