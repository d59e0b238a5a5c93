-- Names, numbers and texts as they are printed.
use Rattle.std.proofs.Common.{◌≡◌, ℕ, ◌+◌, ◌-◌, ◌*◌, ◌%◌, ◌^◌, ◌<◌, Bool, true, false, cond, eqb, leb, List, [], ◌∷◌, ◌++◌, length, refl, sym, ap, subst, ◌∙◌, arith}
use Rattle.std.specs.Prelude.{flat_map}
use Rattle.std.specs.List.{list_all}
use Rattle.std.specs.Fmt.{decimal}
use Rattle.std.proofs.lemmas.Fmt.{decimal_by_steps}
use Rattle.std.proofs.lemmas.List.{length-append}
use Rattle.std.proofs.lemmas.Bool.{le-leb, eqb-true, and_parts, and_from}
use Rattle.std.proofs.Math.Seq.{take-append_seam}
use Rattle.sql_lexer.specs.declared.token.TokenKind.TheVariants as kind
use Rattle.sql_lexer.specs.Lexemes.{Lexeme, identifier, number, text, is_digit, is_word, is_keyword, digits_onto, inner, unescaped, IsBody, Spells}
use Rattle.sql_lexer.specs.Lexemes as s
use Rattle.sql_tree.specs.Printing.{name_text, quoted_byte, quoted}
use Rattle.sql_parser.proofs.Says.{Says, Part, one_token}

-- ---- numbers

digits_push : (high : ℕ) (ds : List ℕ) (d : ℕ) → digits_onto high (ds ++ d ∷ []) ≡ digits_onto high ds * 10 + (d - 0x30)
digits_push high [] d = refl
digits_push high (e ∷ ds) d = digits_push (high * 10 + (e - 0x30)) ds d

all_push : (ds : List ℕ) (d : ℕ) → list_all is_digit ds ≡ true → is_digit d ≡ true → list_all is_digit (ds ++ d ∷ []) ≡ true
all_push [] d h i = rw i refl
all_push (e ∷ ds) d h i = let p = and_parts (is_digit e) (list_all is_digit ds) h in rw (p.0, all_push ds d p.1 i) refl

record Numeral (n : ℕ) (ds : List ℕ) : Type 0 where
  digits : list_all is_digit ds ≡ true
  value : digits_onto 0 ds ≡ n
  some : 0 < length ds

digit_is : (d : ℕ) → d < 10 → is_digit (48 + d) ≡ true
digit_is d lt = and_from (leb 48 (48 + d)) (leb (48 + d) 57) (le-leb 48 (48 + d) (omega arith)) (le-leb (48 + d) 57 (omega arith))

numeral : (n : ℕ) → n < 2 ^ 64 → Numeral n (decimal n)
numeral = decimal_by_steps Numeral
    (λ n lt. record { digits = rw (digit_is n lt) refl; value = omega arith; some = omega arith })
    (λ n ds le f. record {
      digits = all_push ds (48 + n % 10) f.digits (digit_is (n % 10) (omega arith));
      value = rw (digits_push 0 ds (48 + n % 10), f.value) (omega arith);
      some = omega (arith, length-append ds ((48 + n % 10) ∷ []));
    })

spells_number : (ds : List ℕ) → list_all is_digit ds ≡ true → 0 < length ds → Spells ds kind.Number
spells_number [] h some = absurd (omega arith)
spells_number (d ∷ ds) h some = let p = and_parts (is_digit d) (list_all is_digit ds) h in s.digits p.0 p.1

pub number_part : (n : ℕ) → n < 2 ^ 64 → Part (decimal n) (number n ∷ [])
number_part n lt rest ms b r =
    let f = numeral n lt in
    subst (λ (m : ℕ). Says (decimal n ++ rest) (number m ∷ ms)) f.value (one_token (decimal n) kind.Number (spells_number (decimal n) f.digits f.some) rest ms b r)

-- ---- names

pub inner_is : (a z : ℕ) (bytes : List ℕ) → inner (a ∷ bytes ++ z ∷ []) ≡ bytes
inner_is a z bytes =
    let e : length (a ∷ bytes ++ z ∷ []) - 2 ≡ length bytes = omega (arith, length-append bytes (z ∷ [])) in
    rw e (take-append_seam bytes (z ∷ []))

pub name_part : (name : List ℕ) → is_word name ≡ true → Part (name_text name) (identifier name ∷ [])
unfolding name_text
name_part name w rest ms b r = go (is_keyword name) refl
  where
    go : (q : Bool) → is_keyword name ≡ q → Says (cond q (0x60 ∷ name ++ 0x60 ∷ []) name ++ rest) (identifier name ∷ ms)
    go true is =
        subst (λ (bytes : List ℕ). Says ((0x60 ∷ name ++ 0x60 ∷ []) ++ rest) (identifier bytes ∷ ms)) (inner_is 0x60 0x60 name)
        (one_token (0x60 ∷ name ++ 0x60 ∷ []) kind.Quoted (s.quoted name w) rest ms b r)
    go false is = one_token name kind.Word (s.word w is) rest ms b r

-- ---- texts

body : (bytes : List ℕ) → IsBody (flat_map quoted_byte bytes)
body [] = s.done
body (b ∷ bytes) = go (eqb b 0x27) refl (eqb b 0x5C) refl (body bytes)
  where
    go : (q : Bool) → eqb b 0x27 ≡ q → (l : Bool) → eqb b 0x5C ≡ l → IsBody (flat_map quoted_byte bytes)
        → IsBody (cond q (0x27 ∷ 0x27 ∷ []) (cond l (0x5C ∷ 0x5C ∷ []) (b ∷ [])) ++ flat_map quoted_byte bytes)
    go true is l _ r = s.quotes r
    go false _ true is r = s.escape r
    go false q false l r = s.plain q l r

plain_said : (b : ℕ) (bytes : List ℕ) → eqb b 0x27 ≡ false → eqb b 0x5C ≡ false → unescaped (b ∷ bytes) ≡ b ∷ unescaped bytes
plain_said b [] q l = refl
plain_said b (c ∷ bytes) q l = rw (q, l) refl

said_again : (bytes : List ℕ) → unescaped (flat_map quoted_byte bytes) ≡ bytes
said_again [] = refl
said_again (b ∷ bytes) = go (eqb b 0x27) refl (eqb b 0x5C) refl (said_again bytes)
  where
    go : (q : Bool) → eqb b 0x27 ≡ q → (l : Bool) → eqb b 0x5C ≡ l → unescaped (flat_map quoted_byte bytes) ≡ bytes
        → unescaped (cond q (0x27 ∷ 0x27 ∷ []) (cond l (0x5C ∷ 0x5C ∷ []) (b ∷ [])) ++ flat_map quoted_byte bytes) ≡ b ∷ bytes
    go true is l _ r = ap (λ (cs : List ℕ). 0x27 ∷ cs) r ∙ ap (λ c. c ∷ bytes) (sym (eqb-true b 0x27 is))
    go false _ true is r = ap (λ (cs : List ℕ). 0x5C ∷ cs) r ∙ ap (λ c. c ∷ bytes) (sym (eqb-true b 0x5C is))
    go false q false l r = plain_said b (flat_map quoted_byte bytes) q l ∙ ap (λ (cs : List ℕ). b ∷ cs) r

pub text_part : (bytes : List ℕ) → Part (quoted bytes) (text bytes ∷ [])
text_part bytes rest ms b r =
    let e = ap unescaped (inner_is 0x27 0x27 (flat_map quoted_byte bytes)) ∙ said_again bytes in
    subst (λ (cs : List ℕ). Says (quoted bytes ++ rest) (text cs ∷ ms)) e (one_token (quoted bytes) kind.Text (s.string (body bytes)) rest ms b r)
