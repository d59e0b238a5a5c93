-- A text of digits is read as the bytes that they spell.
use Rattle.std.proofs.Common.{◌≡◌, ℕ, List, length, Result, Ok, Err, refl, sym, ◌∙◌, subst, ap}
use Rattle.std.specs.Prelude.{MatchResult}
use Rattle.hex.specs.Hex.{IsBytes, encode_lower, decode_sized}
use Rattle.hex.specs.declared.error.FromHexError.{FromHexError}
use Rattle.hex.proofs.HexLemmas.{decode_of-ok, decode_sized-ok, decode_sized-twice, decode_sized-encode_lower}

read : (text bytes : List ℕ) → IsBytes bytes → length bytes ≡ 20 → text ≡ encode_lower bytes → decode_sized text 20 ≡ Ok bytes
read text bytes small long spells = ap (λ t. decode_sized t 20) spells ∙ decode_sized-encode_lower bytes 20 long small

of_sized : (text bytes : List ℕ) → decode_sized text 20 ≡ Ok bytes → IsBytes bytes
of_sized text bytes is = let twice = decode_sized-ok text 20 bytes is in (decode_of-ok text bytes (sym (decode_sized-twice text 20 twice) ∙ is)).3

module _ (text : List ℕ) (result : Result (Unit {0}) FromHexError) (out : List ℕ)
    (value : MatchResult (decode_sized text 20) (λ bytes. (result ≡ Ok tt) × (out ≡ bytes)) (λ e. result ≡ Err e)) where
  decoded : (bytes : List ℕ) → IsBytes bytes → length bytes ≡ 20 → text ≡ encode_lower bytes → (result ≡ Ok tt) × (out ≡ bytes)
  decoded bytes small long spells =
      subst (λ r. MatchResult r (λ bytes. (result ≡ Ok tt) × (out ≡ bytes)) (λ e. result ≡ Err e)) (read text bytes small long spells) value

  -- digits that are refused spell no bytes
  pub no_digest : (e : FromHexError) → result ≡ Err e → (bytes : List ℕ) → IsBytes bytes → length bytes ≡ 20 → text ≡ encode_lower bytes → ⊥
  no_digest e is bytes small long spells = let ok = (decoded bytes small long spells).0 in cc (ok, is)

  -- nor do digits that aren't how the bytes are written
  pub other_digest : (encode_lower out ≡ text → ⊥) → (bytes : List ℕ) → IsBytes bytes → length bytes ≡ 20 → text ≡ encode_lower bytes → ⊥
  other_digest apart bytes small long spells = apart (ap encode_lower (decoded bytes small long spells).1 ∙ sym spells)

  -- what is decoded are bytes
  pub are_bytes : result ≡ Ok tt → IsBytes out
  are_bytes ok = by (decode_sized text 20) refl value
    where
      by : (r : Result (List ℕ) FromHexError) → decode_sized text 20 ≡ r → MatchResult r (λ bytes. (result ≡ Ok tt) × (out ≡ bytes)) (λ e. result ≡ Err e) → IsBytes out
      by (Ok bytes) is h = subst IsBytes (sym h.1) (of_sized text bytes is)
      by (Err e) is h = absurd (cc (ok, h))
