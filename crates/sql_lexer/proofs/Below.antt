-- A test of numbers below a bound, by computing it at each.
use Rattle.std.proofs.Common.{◌≡◌, ℕ, zero, suc, ◌<◌, Bool, true, ◌&&◌, arith, inl, inr}
use Rattle.std.proofs.lemmas.Bool.{cases_eq, and_parts}

unfoldable pub passes_below : (ℕ → Bool) → ℕ → Bool
passes_below p zero = true
passes_below p (suc n) = p n && passes_below p n

pub passes_at : (p : ℕ → Bool) (n : ℕ) → passes_below p n ≡ true → (b : ℕ) → b < n → p b ≡ true
unfolding passes_below
passes_at p zero h b lt = absurd (omega arith)
passes_at p (suc n) h b lt =
    let both = and_parts (p n) (passes_below p n) h in
    elim (cases_eq b n) [ inl same ↦ rw same both.0 | inr other ↦ passes_at p n both.1 b (omega arith) ]
