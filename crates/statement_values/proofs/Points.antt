-- Texts of decimals: where their point is, and that they are ASCII.
use Rattle.std.proofs.Common.{◌≡◌, ℕ, ℤ, zero, suc, pos, negsuc, ◌+◌, ◌<◌, ◌≤◌, ◌^◌, Bool, true, false, List, [], ◌∷◌, ◌++◌, length, take, drop, drop-cons, take-suc, get_or, refl, ap, sym, subst, ◌∙◌, arith, append_assoc, append-nil, FitsSigned}
use Rattle.std.specs.Prelude.{◌==◌, cond, slice_index_or}
use Rattle.std.specs.Int.{w128}
use Rattle.std.specs.Str.{IsAscii, IsUtf8}
use Rattle.std.specs.Str.Parse.{AllDigits, IsNumeral, without_leading_sign}
use Rattle.std.proofs.lemmas.Bool.{eq-eqb, ne_eqb, eqb-true}
use Rattle.std.proofs.lemmas.Fmt.{IsAscii-from_digits}
use Rattle.std.proofs.lemmas.Int.{ints}
use Rattle.std.proofs.lemmas.Str.{IsUtf8-from_ascii}
use Rattle.statement_values.specs.Floats.{IsInRange}
use Rattle.statement_values.specs.Decimals.{before_point, after_point}

-- ---- before a point

-- no point came so far
pub record NoPoint (text : List ℕ) (at : ℕ) : Type 0 where
  pub before : before_point text ≡ take at text ++ before_point (drop at text)
  pub after : after_point text ≡ after_point (drop at text)

pub no_point : (text : List ℕ) → NoPoint text 0
no_point text = record { before = refl; after = refl }

other_before : (b : ℕ) (bytes : List ℕ) → b == 0x2E ≡ false → before_point (b ∷ bytes) ≡ b ∷ before_point bytes
other_before b bytes e = rw e refl

other_after : (b : ℕ) (bytes : List ℕ) → b == 0x2E ≡ false → after_point (b ∷ bytes) ≡ after_point bytes
other_after b bytes e = rw e refl

at_point : (text : List ℕ) (at b : ℕ) → at < length text → b ≡ slice_index_or text at b → drop at text ≡ b ∷ drop (suc at) text
at_point text at b lt is = drop-cons text at b lt ∙ ap (λ (x : ℕ). x ∷ drop (suc at) text) (sym is)

taken : (text : List ℕ) (at b : ℕ) → at < length text → b ≡ slice_index_or text at b → take (suc at) text ≡ take at text ++ b ∷ []
taken text at b lt is = take-suc text at b lt ∙ ap (λ (x : ℕ). take at text ++ x ∷ []) (sym is)

pub passes : (text : List ℕ) (at b : ℕ) → NoPoint text at → at < length text → b ≡ slice_index_or text at b → (b ≡ 0x2E → ⊥) → NoPoint text (at + 1)
passes text at b so_far lt is other =
    let off = ne_eqb b 0x2E other in
    let here = at_point text at b lt is in
    let next : NoPoint text (suc at) = record {
      before = so_far.before ∙ ap (λ (l : List ℕ). take at text ++ before_point l) here ∙ ap (λ (l : List ℕ). take at text ++ l) (other_before b (drop (suc at) text) off)
          ∙ sym (append_assoc (take at text) (b ∷ []) (before_point (drop (suc at) text)))
          ∙ ap (λ (l : List ℕ). l ++ before_point (drop (suc at) text)) (sym (taken text at b lt is));
      after = so_far.after ∙ ap after_point here ∙ other_after b (drop (suc at) text) off;
    } in
    subst (λ (i : ℕ). NoPoint text i) (omega arith) next

pub point_before : (text : List ℕ) (at b : ℕ) → NoPoint text at → at < length text → b ≡ slice_index_or text at b → b ≡ 0x2E → take at text ≡ before_point text
point_before text at b so_far lt is e =
    let none : before_point (b ∷ drop (suc at) text) ≡ [] = rw (eq-eqb b 0x2E e) refl in
    sym (so_far.before ∙ ap (λ (l : List ℕ). take at text ++ before_point l) (at_point text at b lt is) ∙ ap (λ (l : List ℕ). take at text ++ l) none
    ∙ append-nil (take at text))

pub point_after : (text : List ℕ) (at b : ℕ) → NoPoint text at → at < length text → b ≡ slice_index_or text at b → b ≡ 0x2E → drop (at + 1) text ≡ after_point text
point_after text at b so_far lt is e =
    let rest : after_point (b ∷ drop (suc at) text) ≡ drop (suc at) text = rw (eq-eqb b 0x2E e) refl in
    let next : at + 1 ≡ suc at = omega arith in
    ap (λ (i : ℕ). drop i text) next ∙ sym (so_far.after ∙ ap after_point (at_point text at b lt is) ∙ rest)

past : (text : List ℕ) (at : ℕ) → length text ≤ at → drop at text ≡ []
past [] zero le = refl
past [] (suc at) le = refl
past (b ∷ text) zero le = absurd (omega (arith, le))
past (b ∷ text) (suc at) le = past text at (omega (arith, le))

pub end_before : (text : List ℕ) (at : ℕ) → NoPoint text at → length text ≤ at → take at text ≡ before_point text
end_before text at so_far le =
    sym (so_far.before ∙ ap (λ (l : List ℕ). take at text ++ before_point l) (past text at le) ∙ append-nil (take at text))

pub end_after : (text : List ℕ) (at : ℕ) → NoPoint text at → length text ≤ at → drop (at + 1) text ≡ after_point text
end_after text at so_far le = past text (at + 1) (omega (arith, le)) ∙ sym (so_far.after ∙ ap after_point (past text at le))

-- ---- digits are ASCII

and_more : (b : ℕ) (bytes : List ℕ) → b < 128 → IsAscii bytes → IsAscii (b ∷ bytes)
and_more b bytes lt ascii zero = lt
and_more b bytes lt ascii (suc i) = ascii i

none_ascii : IsAscii []
none_ascii zero = omega arith
none_ascii (suc i) = omega arith

numeral_ascii : (text : List ℕ) → AllDigits 10 (without_leading_sign text) → IsAscii text
numeral_ascii [] digits = none_ascii
numeral_ascii (b ∷ bytes) digits = with_sign (b == 45) (b == 43) refl refl digits
  where
    with_sign : (minus plus : Bool) → b == 45 ≡ minus → b == 43 ≡ plus → AllDigits 10 (cond minus (drop 1 (b ∷ bytes)) (drop (cond plus 1 0) (b ∷ bytes)))
        → IsAscii (b ∷ bytes)
    with_sign true plus e f d = and_more b bytes (omega (arith, eqb-true b 45 e)) (IsAscii-from_digits bytes d)
    with_sign false true e f d = and_more b bytes (omega (arith, eqb-true b 43 f)) (IsAscii-from_digits bytes d)
    with_sign false false e f d = IsAscii-from_digits (b ∷ bytes) d

pub numeral_utf8 : (text : List ℕ) → IsNumeral 10 (without_leading_sign text) → IsUtf8 text
numeral_utf8 text numeral = IsUtf8-from_ascii text (numeral_ascii text numeral.1)

pub range_fits : (z : ℤ) → IsInRange z → FitsSigned w128 z
range_fits (pos n) h = omega (arith, ints, h)
range_fits (negsuc n) h = omega (arith, ints, h)
