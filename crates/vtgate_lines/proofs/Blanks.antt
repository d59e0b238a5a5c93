-- A comma list of ranges' names has no blank, and is ASCII.
use Rattle.std.proofs.Common.{◌≡◌, ◌≢◌, ℕ, zero, suc, ◌/◌, ◌%◌, ◌<◌, List, [], ◌∷◌, ◌++◌, length, get_or, slice_index, sym, subst, arith, Bor, MatchOption, lit<}
use Rattle.std.specs.Prelude.{codes, Some, None, Option, IfSome, IsTrue}
use Rattle.std.proofs.lemmas.Bool.Decides.{nat_tests}
use Rattle.std.proofs.lemmas.Str.Pattern.{IsSplitOnceResult, split_after}
use Rattle.keyrange.specs.declared.KeyRange.{KeyRange}
use Rattle.keyrange.specs.Ranges.{IsByteString, is_before}
use Rattle.keyrange.specs.Names.{hex_digit, hex, end_text, IsEdge, IsNameOf}
use Rattle.keyrange.proofs.Hex.{byte_of}
use Rattle.vtgate_lines.specs.Partitions.{IsListOf, last, more}

abbrev pub IsPlain : ℕ → Type 0
IsPlain b = (b ≢ 32) × (b < 128)

abbrev pub ArePlain : List ℕ → Type 0
ArePlain [] = Unit {0}
ArePlain (x ∷ xs) = IsPlain x × ArePlain xs

pub plain_append : (xs ys : List ℕ) → ArePlain xs → ArePlain ys → ArePlain (xs ++ ys)
plain_append [] ys h g = g
plain_append (x ∷ xs) ys h g = (h.0, plain_append xs ys h.1 g)

plain_digit : (d : ℕ) → d < 16 → IsPlain (hex_digit d)
plain_digit d h = (λ e. grind (arith, nat_tests), grind (arith, nat_tests))

plain_hex : (bs : List ℕ) → IsByteString bs → ArePlain (hex bs)
plain_hex [] h = tt
plain_hex (b ∷ bs) h =
    (plain_digit (b / 16) (let p = byte_of b bs h in omega arith), (plain_digit (b % 16) (omega arith), plain_hex bs (byte_of b bs h).1))

plain_dash : ArePlain (codes "-")
plain_dash = ((λ e. absurd (omega (arith, e)), omega arith), tt)

plain_end : (end : Option (List ℕ)) → IfSome end (λ e. IsByteString e) → ArePlain (end_text end)
plain_end None h = tt
plain_end (Some e) h = plain_hex e h

pub plain_name : (text : List ℕ) (range : KeyRange) → IsNameOf text range → ArePlain text
plain_name text range n =
    subst (λ (t : List ℕ). ArePlain t) (sym n.1)
    (plain_append (hex range.begin ++ codes "-") (end_text range.end) (plain_append (hex range.begin) (codes "-") (plain_hex range.begin n.0.0.0) plain_dash)
    (plain_end range.end (bytes range.end n.0.1)))
  where
    bytes : (end : Option (List ℕ)) → IfSome end (λ e. IsEdge e × (e ≢ []) × IsTrue (is_before range.begin e)) → IfSome end (λ e. IsByteString e)
    bytes None h = h
    bytes (Some e) h = h.0.0

pub plain_list : (text : List ℕ) (ranges : List KeyRange) → IsListOf text ranges → ArePlain text
plain_list text _ (last {range = range} n) = plain_name text range n
plain_list _ _ (more {name = name} {rest = rest} {range = range} {ranges = ranges} n l) =
    plain_append name (44 ∷ rest) (plain_name name range n) ((λ e. absurd (omega (arith, e)), omega arith), plain_list rest ranges l)

pub no_blank : (xs : List ℕ) → ArePlain xs → (i : ℕ) → i < length xs → get_or xs i 0 ≢ 32
no_blank [] h i l e = absurd (omega (arith, l))
no_blank (x ∷ xs) h zero l e = h.0.0 e
no_blank (x ∷ xs) h (suc i) l e = no_blank xs h.1 i (omega arith) e

abbrev pub AreAscii : List ℕ → Type 0
AreAscii xs = (i : ℕ) → slice_index xs i < 128

pub ascii_append : (xs ys : List ℕ) → ArePlain xs → AreAscii ys → AreAscii (xs ++ ys)
ascii_append [] ys h g i = g i
ascii_append (x ∷ xs) ys h g zero = h.0.1
ascii_append (x ∷ xs) ys h g (suc i) = ascii_append xs ys h.1 g i

pub ascii : (xs : List ℕ) → ArePlain xs → AreAscii xs
ascii [] h i = omega arith
ascii (x ∷ xs) h zero = h.0.1
ascii (x ∷ xs) h (suc i) = ascii xs h.1 i

blank_before : (ys : List ℕ) → AreAscii ys → AreAscii (32 ∷ ys)
blank_before ys h zero = omega arith
blank_before ys h (suc i) = h i

pub lists_ascii : (from into : List ℕ) (a b : List KeyRange) → IsListOf from a → IsListOf into b → AreAscii (from ++ (32 ∷ into))
lists_ascii from into a b f g = ascii_append from (32 ∷ into) (plain_list from a f) (blank_before into (ascii into (plain_list into b g)))

-- a text of two lists is split at its blank
pub two_apart : (text from into : List ℕ) (a b : List KeyRange) (parts : Option (Bor (List ℕ) × Bor (List ℕ))) → IsSplitOnceResult 32 text parts
    → text ≡ from ++ (32 ∷ into) → IsListOf from a → IsListOf into b → MatchOption parts ⊥ (λ x. (x.0.now ≡ from) × (x.1.now ≡ into))
two_apart text from into a b parts s e f g = split_after 32 text from into parts s (lit< tt) e (no_blank from (plain_list from a f))
