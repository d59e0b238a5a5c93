-- A text without a zero, before a zero, has one end.
use Rattle.std.proofs.Common.{◌≡◌, ℕ, suc, List, [], ◌∷◌, ◌++◌, refl, arith}
use Rattle.std.proofs.lemmas.List.Elements.{Contains-append_right}
use Rattle.mysql_handshake.specs.Handshakes.{HasNoZero}

pub ends_in_zero : (text rest : List ℕ) → HasNoZero (text ++ (0x00 ∷ rest)) → ⊥
ends_in_zero text rest none = none (Contains-append_right text (0x00 ∷ rest) 0x00 (0, omega arith, refl))

more : (x : ℕ) (text : List ℕ) → HasNoZero (x ∷ text) → HasNoZero text
more x text none h = none (suc h.0, omega (arith, h.1), h.2)

pub zero_splits : (a b r s : List ℕ) → HasNoZero a → HasNoZero b → a ++ (0x00 ∷ r) ≡ b ++ (0x00 ∷ s) → (a ≡ b) × (r ≡ s)
zero_splits [] [] r s na nb e = (refl, cc)
zero_splits [] (y ∷ b) r s na nb e = absurd (nb (0, omega arith, cc))
zero_splits (x ∷ a) [] r s na nb e = absurd (na (0, omega arith, cc))
zero_splits (x ∷ a) (y ∷ b) r s na nb e =
    let rest : a ++ (0x00 ∷ r) ≡ b ++ (0x00 ∷ s) = cc in
    let same = zero_splits a b r s (more x a na) (more y b nb) rest in (cc, same.1)
