-- The digits of numbers that columns may hold are read again.
use Rattle.std.proofs.Common.{◌≡◌, ℕ, zero, suc, List, ◌∷◌, Result, Ok, ap, subst, ◌∙◌, arith, refl, pos, negsuc, neg_ℤ}
use Rattle.std.proofs.lemmas.Int.{ints}
use Rattle.std.specs.Prelude.{ℤ}
use Rattle.std.specs.Fmt.{decimal, signed_decimal}
use Rattle.std.specs.Int.{w128}
use Rattle.std.specs.Str.{IsAscii, IsUtf8}
use Rattle.std.specs.Str.Parse.{ParsesSigned}
use Rattle.std.proofs.lemmas.Fmt.{decimal_is_IsNumeral_wide, IsAscii-decimal_wide}
use Rattle.std.proofs.lemmas.Str.{IsUtf8-from_ascii}
use Rattle.std.proofs.lemmas.Str.Parse.{numerals_by_value, tells_digits, parse_signed_minus, parse_signed_digits}
use Rattle.std.proofs.lemmas.Result.{Ok-from_Ok_iff}
use Rattle.resultset.specs.inner.Reading.{IsWide}

ascii : (n : ℤ) → IsWide n → IsAscii (signed_decimal n)
ascii (pos n) wide i = IsAscii-decimal_wide n (omega (arith, ints, wide)) i
ascii (negsuc n) wide zero = omega arith
ascii (negsuc n) wide (suc i) = IsAscii-decimal_wide (suc n) (omega (arith, ints, wide)) i

pub wide_utf8 : (n : ℤ) → IsWide n → IsUtf8 (signed_decimal n)
wide_utf8 n wide = IsUtf8-from_ascii (signed_decimal n) (ascii n wide)

pub wide_parse : {E : Type 0} (n : ℤ) (bs : List ℕ) (r : Result ℤ E) → IsWide n → bs ≡ signed_decimal n → ParsesSigned w128 10 bs r → r ≡ Ok n
wide_parse (pos n) bs r wide is h =
    let k = decimal_is_IsNumeral_wide n (omega (arith, ints, wide)) in
    let read = parse_signed_digits (numerals_by_value _ tells_digits) w128 (decimal n) r (subst (λ l. ParsesSigned w128 10 l r) is h) k.0.1 in
    Ok-from_Ok_iff r _ _ read (k.0.0, omega (arith, ints, k.1, wide)) ∙ ap (λ m. Ok (pos m)) k.1
wide_parse (negsuc n) bs r wide is h =
    let k = decimal_is_IsNumeral_wide (suc n) (omega (arith, ints, wide)) in
    let read = parse_signed_minus (numerals_by_value _ tells_digits) w128 (45 ∷ decimal (suc n)) r (subst (λ l. ParsesSigned w128 10 l r) is h) refl in
    Ok-from_Ok_iff r _ _ read (k.0.1, k.0.0, omega (arith, ints, k.1, wide)) ∙ ap (λ m. Ok (neg_ℤ (pos m))) k.1
