-- A text that writes a number is read as it.
use Rattle.std.proofs.Common.{◌≡◌, ℕ, ◌<◌, ◌^◌, List, Result, Ok, Err, sym, ◌∙◌, ap, arith}
use Rattle.std.specs.Fmt.{decimal}
use Rattle.std.specs.Str.Parse.{ParsesUnsigned}
use Rattle.std.proofs.lemmas.Fmt.{parse-decimal, decimal_injective}

-- a text that doesn't parse writes no number
pub no_number : {E : Type 0} (text : List ℕ) (e : E) (r : Result ℕ E) → ParsesUnsigned 32 10 text r → r ≡ Err e
    → (n : ℕ) → n < 2 ^ 32 → text ≡ decimal n → ⊥
no_number text e r h is n below writes = let ok = parse-decimal 32 n text r below (omega (arith, below)) writes h in cc (ok, is)

-- a text that parses as a number, and isn't how that is written, writes none
pub other_number : {E : Type 0} (text : List ℕ) (m : ℕ) (r : Result ℕ E) → ParsesUnsigned 32 10 text r → r ≡ Ok m → (decimal m ≡ text → ⊥)
    → (n : ℕ) → n < 2 ^ 32 → text ≡ decimal n → ⊥
other_number text m r h is apart n below writes =
    let ok = parse-decimal 32 n text r below (omega (arith, below)) writes h in
    let same : n ≡ m = cc (ok, is) in
    apart (ap decimal (sym same) ∙ sym writes)

-- a text writes one number
pub one_number : (text : List ℕ) (m n : ℕ) → m < 2 ^ 32 → n < 2 ^ 32 → text ≡ decimal m → text ≡ decimal n → m ≡ n
one_number text m n below under first second = decimal_injective m n (omega (arith, below)) (omega (arith, under)) (sym first ∙ second)
