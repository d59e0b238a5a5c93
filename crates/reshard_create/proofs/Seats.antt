-- Seats that are taken from the end of a list, and put back.
use Rattle.std.proofs.Common.{◌≡◌, ℕ, ◌+◌, ◌≤◌, List, [], ◌∷◌, ◌++◌, length, map, reverse, sym, ap, ◌∙◌, arith, append_assoc}
use Rattle.std.proofs.lemmas.List.{map-append, length-map, reverse-append}

module _ {S T : Type 0} (f : S → ℕ) (g : T → ℕ) where
  last_first : (made : List T) (t : T) → reverse (map g (made ++ t ∷ [])) ≡ g t ∷ reverse (map g made)
  last_first made t = ap reverse (map-append g made (t ∷ [])) ∙ reverse-append (map g made) (g t ∷ [])

  -- one more slot is the next target's
  pub taken_next : (all : List ℕ) (free new : List S) (made more : List T) (t : T) → all ≡ map f free ++ reverse (map g made) → map f free ≡ map f new ++ g t ∷ []
      → more ≡ made ++ t ∷ [] → all ≡ map f new ++ reverse (map g more)
  taken_next all free new made more t is one grown =
      is ∙ ap (λ (l : List ℕ). l ++ reverse (map g made)) one ∙ append_assoc (map f new) (g t ∷ []) (reverse (map g made))
      ∙ ap (λ (l : List ℕ). map f new ++ l) (sym (last_first made t) ∙ ap (λ (l : List T). reverse (map g l)) (sym grown))

  -- the last target's slot is free again
  pub put_next : (all : List ℕ) (free new : List S) (rest left : List T) (s : S) (t : T) → map f free ++ reverse (map g rest) ≡ all → new ≡ free ++ s ∷ []
      → rest ≡ left ++ t ∷ [] → f s ≡ g t → map f new ++ reverse (map g left) ≡ all
  put_next all free new rest left s t is grown was same =
      ap (λ (l : List ℕ). l ++ reverse (map g left)) (ap (map f) grown ∙ map-append f free (s ∷ []))
      ∙ append_assoc (map f free) (f s ∷ []) (reverse (map g left))
      ∙ ap (λ (n : ℕ). map f free ++ n ∷ reverse (map g left)) same
      ∙ ap (λ (l : List ℕ). map f free ++ l) (sym (last_first left t) ∙ ap (λ (l : List T). reverse (map g l)) (sym was)) ∙ is

  -- how many are free, and how many were
  pub counted : (all free : List S) (made : List T) → map f all ≡ map f free ++ reverse (map g made) → length all ≡ length free + length made
  counted all free made is =
      let a = ap length is in
      let b = length-map all f in
      let c = length-map free f in
      let d = length-map made g in
      let e = Rattle.std.proofs.Common.length-append (map f free) (reverse (map g made)) in
      let h = Rattle.std.proofs.lemmas.List.length-reverse (map g made) in
      omega (arith, a, b, c, d, e, h)
