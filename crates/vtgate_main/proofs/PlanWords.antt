-- Two or three words, by their places.
use Rattle.std.proofs.Common.{◌≡◌, ℕ, List, [], ◌∷◌, length, get_or, map, Some, sym, ap, ◌∙◌, arith}
use Rattle.vtgate_serve.specs.Word.{Word}
use Rattle.vtgate_serve.specs.Word.TheVariants.{Text, Bytes}
use Rattle.vtgate_serve.specs.Words.{word_bytes, word_text}

three : {X : Type 0} (words : List X) (a b c : X) → length words ≡ 3 → a ≡ get_or words 0 a → b ≡ get_or words 1 b → c ≡ get_or words 2 c
    → words ≡ a ∷ b ∷ c ∷ []
three [] a b c h e f g = absurd (omega (arith, h))
three (x ∷ []) a b c h e f g = absurd (omega (arith, h))
three (x ∷ y ∷ []) a b c h e f g = absurd (omega (arith, h))
three (x ∷ y ∷ z ∷ []) a b c h e f g = cc
three (x ∷ y ∷ z ∷ w ∷ words) a b c h e f g = absurd (omega (arith, h))

pub three_of : {X Y : Type 0} (text : X → Y) (words : List X) (a b c : X) (ta tb tc : Y) → length words ≡ 3 → a ≡ get_or words 0 a → b ≡ get_or words 1 b
    → c ≡ get_or words 2 c → text a ≡ ta → text b ≡ tb → text c ≡ tc → map text words ≡ ta ∷ tb ∷ tc ∷ []
three_of text words a b c ta tb tc n e f g is s q = ap (map text) (three words a b c n e f g) ∙ (λ i. is i ∷ s i ∷ q i ∷ [])

two : {X : Type 0} (words : List X) (a b : X) → length words ≡ 2 → a ≡ get_or words 0 a → b ≡ get_or words 1 b → words ≡ a ∷ b ∷ []
two [] a b h e f = absurd (omega (arith, h))
two (x ∷ []) a b h e f = absurd (omega (arith, h))
two (x ∷ y ∷ []) a b h e f = cc
two (x ∷ y ∷ z ∷ words) a b h e f = absurd (omega (arith, h))

pub two_of : {X Y : Type 0} (text : X → Y) (words : List X) (a b : X) (ta tb : Y) → length words ≡ 2 → a ≡ get_or words 0 a → b ≡ get_or words 1 b
    → text a ≡ ta → text b ≡ tb → map text words ≡ ta ∷ tb ∷ []
two_of text words a b ta tb n e f is s = ap (map text) (two words a b n e f) ∙ (λ i. is i ∷ s i ∷ [])

-- the bytes of a word that is a text
pub bytes_of : (word : Word) (text : List ℕ) → word_text word ≡ Some text → word_bytes word ≡ text
bytes_of (Text t) text is = cc
bytes_of (Bytes b) text is = cc
