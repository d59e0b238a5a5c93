-- The token at a text's front: what is read is a token that ends there, and each such token is read.
use Rattle.std.proofs.Common.{◌≡◌, ℕ, suc, ◌+◌, ◌<◌, Bool, true, false, cond, eqb, leb, not, ◌&&◌, ◌||◌, List, [], ◌∷◌, ◌++◌, length, take, drop, Option, Some, None, refl, sym, ap, subst, ◌∙◌, append_assoc, arith, inl, inr}
use Rattle.std.specs.List.{list_all}
use Rattle.std.proofs.lemmas.Bool.{leb-true, le-leb, lt-leb, ne_eqb, eqb-true, and_parts, or_cases, or_parts, and_right}
use Rattle.std.proofs.lemmas.List.{length-append, take-append-drop, length-take}
use Rattle.std.proofs.Math.Seq.{take-append_seam, drop-append_seam}
use Rattle.vt_value.specs.declared.value.Comparison.{Comparison}
use Rattle.vt_value.specs.declared.value.Comparison.TheVariants.{Eq, Ne, Lt, Le, Gt, Ge}
use Rattle.sql_lexer.specs.declared.body.TextState.TheVariants.{Inside}
use Rattle.sql_lexer.specs.declared.token.Keyword as K
use Rattle.sql_lexer.specs.declared.token.Sign as S
use Rattle.sql_lexer.specs.declared.token.Sign.TheVariants.{LeftParenthesis, RightParenthesis, Comma, Semicolon, Star, Minus, Dot}
use Rattle.sql_lexer.specs.declared.token.TokenKind.{TokenKind}
use Rattle.sql_lexer.specs.declared.token.TokenKind.TheVariants.{Keyword, Word, Quoted, Number, Text, Sign, Operator}
use Rattle.sql_lexer.specs.Lexemes.{is_blank, is_letter, is_digit, is_word_byte, is_spelling_of, is_keyword, is_word, max_word, IsBody, Spells, ends_token, goes_on}
use Rattle.sql_lexer.specs.Lexemes as s
use Rattle.sql_lexer.specs.inner.Scanning.{Front, run, first_passes, word_kind, keyword_at, word_at, digits_at, quoted_at, text_len, string_at, sign_at, less_at, greater_at, bang_at, operator_at, mark_of, mark_at, token_at}
use Rattle.sql_lexer.proofs.Options.{some_is, bind_some, guard_some, unless_some}
use Rattle.sql_lexer.proofs.Keywords.{keyword_is_word, keyword_again, keyword_sound, no_keyword_sound, no_keyword_again}
use Rattle.sql_lexer.proofs.Runs.{run_within, run_passes, run_stops, run_exact}
use Rattle.sql_lexer.proofs.Texts.{closes, text_closed}

-- ---- bytes

digit_no_letter : (b : ℕ) → is_digit b ≡ true → is_letter b ≡ false
digit_no_letter b h =
    let p = and_parts (leb 48 b) (leb b 57) h in
    let high = leb-true b 57 p.1 in
    rw (lt-leb 65 b (omega arith), lt-leb 97 b (omega arith), ne_eqb b 95 (λ e. omega arith)) refl

letter_above : (b : ℕ) → is_letter b ≡ true → 64 < b
letter_above b h = elim (or_cases ((leb 65 b && leb b 90) || (leb 97 b && leb b 122)) (eqb b 95) h) [
  | inl x ↦ elim (or_cases (leb 65 b && leb b 90) (leb 97 b && leb b 122) x) [
    | inl y ↦ let e = leb-true 65 b (and_parts (leb 65 b) (leb b 90) y).0 in omega arith
    | inr y ↦ let e = leb-true 97 b (and_parts (leb 97 b) (leb b 122) y).0 in omega arith
  ]
  | inr x ↦ let e = eqb-true b 95 x in omega arith
]

letter_no_quote : (b c : ℕ) → is_letter c ≡ false → is_letter b ≡ true → eqb b c ≡ false
letter_no_quote b c other h = ne_eqb b c (λ e. let is : is_letter c ≡ true = subst (λ (x : ℕ). is_letter x ≡ true) e h in cc)

digit_no_quote : (b c : ℕ) → is_digit c ≡ false → is_digit b ≡ true → eqb b c ≡ false
digit_no_quote b c other h = ne_eqb b c (λ e. let is : is_digit c ≡ true = subst (λ (x : ℕ). is_digit x ≡ true) e h in cc)

ends_before : (kind : TokenKind) (p : ℕ → Bool) → ((b : ℕ) → goes_on kind b ≡ p b) → (rest : List ℕ) → first_passes p rest ≡ false → ends_token kind rest ≡ true
ends_before kind p same [] h = refl
ends_before kind p same (b ∷ rest) h = rw (same b, h) refl

begins_none : (kind : TokenKind) (p : ℕ → Bool) → ((b : ℕ) → goes_on kind b ≡ p b) → (rest : List ℕ) → ends_token kind rest ≡ true → first_passes p rest ≡ false
begins_none kind p same [] h = refl
begins_none kind p same (b ∷ rest) h = go (p b) (subst (λ (x : Bool). not x ≡ true) (same b) h)
  where
    go : (x : Bool) → not x ≡ true → x ≡ false
    go true h = absurd cc
    go false h = refl

no_blank : (b : ℕ) → 32 < b → is_blank b ≡ false
no_blank b h = rw (ne_eqb b 32 (λ e. omega arith), lt-leb b 13 (omega arith)) (and_right (leb 9 b) false refl)

-- ---- what is read is a token

-- a token that stands at the front and ends there
pub record Found (bs : List ℕ) (x : Front) : Type 0 where
  pub front : List ℕ
  pub rest : List ℕ
  pub parts : bs ≡ front ++ rest
  pub size : x.1 ≡ length front
  pub spells : Spells front x.0
  pub ended : ends_token x.0 rest ≡ true

pub ends_quoted : (rest : List ℕ) → ends_token Quoted rest ≡ true
ends_quoted [] = refl
ends_quoted (b ∷ rest) = refl

run_more : (p : ℕ → Bool) (b : ℕ) (bs : List ℕ) → p b ≡ true → run p (b ∷ bs) ≡ suc (run p bs)
run_more p b bs h = rw h refl

letter_in_word : (b : ℕ) → is_letter b ≡ true → is_word_byte b ≡ true
letter_in_word b h = rw h refl

-- letters, digits and `_`, of which the first is no digit, at most 64
run_is_word : (b : ℕ) (bs : List ℕ) → is_letter b ≡ true → leb (suc (run is_word_byte bs)) max_word ≡ true → is_word (b ∷ take (run is_word_byte bs) bs) ≡ true
run_is_word b bs letter short =
    let n = leb-true (suc (run is_word_byte bs)) max_word short in
    let size : leb (length (b ∷ take (run is_word_byte bs) bs)) max_word ≡ true = le-leb _ _ (omega (arith, length-take (run is_word_byte bs) bs)) in
    rw (letter, run_passes is_word_byte bs, size) refl

kind_spells : (word : List ℕ) (o : Option K.Keyword) → keyword_at word ≡ o → is_word word ≡ true → Spells word (word_kind o)
kind_spells word (Some k) e h = s.keyword_word k (keyword_sound word k e)
kind_spells word None e h = s.word h (no_keyword_sound word e)

kind_ends : (o : Option K.Keyword) (rest : List ℕ) → first_passes is_word_byte rest ≡ false → ends_token (word_kind o) rest ≡ true
kind_ends (Some k) rest h = ends_before (Keyword k) is_word_byte (λ b. refl) rest h
kind_ends None rest h = ends_before Word is_word_byte (λ b. refl) rest h

word_sound : (b : ℕ) (bs : List ℕ) (x : Front) → is_letter b ≡ true → word_at (b ∷ bs) ≡ Some x → Found (b ∷ bs) x
unfolding word_at
word_sound b bs x letter e =
    let more = run_more is_word_byte b bs (letter_in_word b letter) in
    let n = suc (run is_word_byte bs) in
    let e2 : cond (leb n max_word) (Some (word_kind (keyword_at (take n (b ∷ bs))), n)) None ≡ Some x =
    subst (λ (m : ℕ). cond (leb m max_word) (Some (word_kind (keyword_at (take m (b ∷ bs))), m)) None ≡ Some x) more e in
    let g = guard_some (leb n max_word) (word_kind (keyword_at (take n (b ∷ bs))), n) x e2 in
    let word = b ∷ take (run is_word_byte bs) bs in
    let rest = drop (run is_word_byte bs) bs in
    subst (Found (b ∷ bs)) g.1 (record {
      front = word;
      rest = rest;
      parts = ap (λ (cs : List ℕ). b ∷ cs) (sym (take-append-drop (run is_word_byte bs) bs));
      size = let within = run_within is_word_byte bs in omega (arith, length-take (run is_word_byte bs) bs);
      spells = kind_spells word (keyword_at word) refl (run_is_word b bs letter g.0);
      ended = kind_ends (keyword_at word) rest (run_stops is_word_byte bs);
    })

number_sound : (b : ℕ) (bs : List ℕ) (x : Front) → is_digit b ≡ true → digits_at (b ∷ bs) ≡ Some x → Found (b ∷ bs) x
unfolding digits_at
number_sound b bs x digit e =
    let more = run_more is_digit b bs digit in
    let n = suc (run is_digit bs) in
    let e2 : cond (first_passes is_word_byte (drop n (b ∷ bs))) None (Some (Number, n)) ≡ Some x =
    subst (λ (m : ℕ). cond (first_passes is_word_byte (drop m (b ∷ bs))) None (Some (Number, m)) ≡ Some x) more e in
    let g = unless_some (first_passes is_word_byte (drop n (b ∷ bs))) (Number, n) x e2 in
    subst (Found (b ∷ bs)) g.1 (record {
      front = b ∷ take (run is_digit bs) bs;
      rest = drop (run is_digit bs) bs;
      parts = ap (λ (cs : List ℕ). b ∷ cs) (sym (take-append-drop (run is_digit bs) bs));
      size = let within = run_within is_digit bs in omega (arith, length-take (run is_digit bs) bs);
      spells = s.digits digit (run_passes is_digit bs);
      ended = ends_before Number is_word_byte (λ c. refl) (drop (run is_digit bs) bs) g.0;
    })

begins_with : (byte : ℕ) (bs : List ℕ) → first_passes (λ b. eqb b byte) bs ≡ true → (rest : List ℕ) × (bs ≡ byte ∷ rest)
begins_with byte [] h = absurd cc
begins_with byte (b ∷ bs) h = (bs, ap (λ (c : ℕ). c ∷ bs) (eqb-true b byte h))

quoted_sound : (bs : List ℕ) (x : Front) → quoted_at bs ≡ Some x → Found (0x60 ∷ bs) x
unfolding quoted_at
quoted_sound [] x e = absurd cc
quoted_sound (b ∷ bs) x e =
    let n = run is_word_byte (b ∷ bs) in
    let g = guard_some (is_letter b && leb n max_word && first_passes (λ c. eqb c 0x60) (drop n (b ∷ bs))) (Quoted, n + 2) x e in
    let p = and_parts (is_letter b && leb n max_word) (first_passes (λ c. eqb c 0x60) (drop n (b ∷ bs))) g.0 in
    let q = and_parts (is_letter b) (leb n max_word) p.0 in
    let more : n ≡ suc (run is_word_byte bs) = run_more is_word_byte b bs (letter_in_word b q.0) in
    let short : leb (suc (run is_word_byte bs)) max_word ≡ true = subst (λ (m : ℕ). leb m max_word ≡ true) more q.1 in
    let quote : first_passes (λ c. eqb c 0x60) (drop (run is_word_byte bs) bs) ≡ true =
    subst (λ (m : ℕ). first_passes (λ c. eqb c 0x60) (drop m (b ∷ bs)) ≡ true) more p.1 in
    let trailing = begins_with 0x60 (drop (run is_word_byte bs) bs) quote in
    let word = take (run is_word_byte bs) bs in
    let parts : bs ≡ (word ++ 0x60 ∷ []) ++ trailing.0 =
    sym (take-append-drop (run is_word_byte bs) bs) ∙ ap (λ (cs : List ℕ). word ++ cs) trailing.1 ∙ sym (append_assoc word (0x60 ∷ []) trailing.0) in
    subst (Found (0x60 ∷ b ∷ bs)) g.1 (record {
      front = 0x60 ∷ (b ∷ word) ++ 0x60 ∷ [];
      rest = trailing.0;
      parts = ap (λ (cs : List ℕ). 0x60 ∷ b ∷ cs) parts;
      size = let within = run_within is_word_byte bs in omega (arith, more, length-take (run is_word_byte bs) bs, length-append word (0x60 ∷ []));
      spells = s.quoted (b ∷ word) (run_is_word b bs q.0 short);
      ended = ends_quoted trailing.0;
    })

text_sound : (bs : List ℕ) (x : Front) → string_at bs ≡ Some x → Found (0x27 ∷ bs) x
unfolding string_at
text_sound bs x e =
    let a = bind_some (text_len 0 Inside bs) (λ n. Some (Text, n + 1)) x e in
    let c = text_closed bs a.0 a.1 in
    let same = some_is (Text, a.0 + 1) x a.2 in
    let parts : 0x27 ∷ bs ≡ (0x27 ∷ c.raw ++ 0x27 ∷ []) ++ c.rest = ap (λ (cs : List ℕ). 0x27 ∷ cs) (c.parts ∙ sym (append_assoc c.raw (0x27 ∷ []) c.rest)) in
    subst (Found (0x27 ∷ bs)) same (record {
      front = 0x27 ∷ c.raw ++ 0x27 ∷ [];
      rest = c.rest;
      parts = parts;
      size = omega (arith, c.size, length-append c.raw (0x27 ∷ []));
      spells = s.string c.body;
      ended = c.ended;
    })

sign_is : (b : ℕ) (sign : S.Sign) → sign_at b ≡ Some sign → b ∷ [] ≡ s.sign_text sign
sign_is b sign e = go (eqb b 0x28) refl (eqb b 0x29) refl (eqb b 0x2C) refl (eqb b 0x3B) refl (eqb b 0x2A) refl (eqb b 0x2D) refl (eqb b 0x2E) refl e
  where
    one : (c : ℕ) (other : S.Sign) → eqb b c ≡ true → c ∷ [] ≡ s.sign_text other → ◌≡◌ {A = Option S.Sign} (Some other) (Some sign) → b ∷ [] ≡ s.sign_text sign
    one c other is text e = ap (λ (x : ℕ). x ∷ []) (eqb-true b c is) ∙ text ∙ ap s.sign_text (some_is other sign e)

    go : (p1 : Bool) → eqb b 0x28 ≡ p1 → (p2 : Bool) → eqb b 0x29 ≡ p2 → (p3 : Bool) → eqb b 0x2C ≡ p3 → (p4 : Bool) → eqb b 0x3B ≡ p4 → (p5 : Bool)
        → eqb b 0x2A ≡ p5 → (p6 : Bool) → eqb b 0x2D ≡ p6 → (p7 : Bool) → eqb b 0x2E ≡ p7
        → cond p1 (Some LeftParenthesis) (cond p2 (Some RightParenthesis) (cond p3 (Some Comma) (cond p4 (Some Semicolon) (cond p5 (Some Star)
        (cond p6 (Some Minus) (cond p7 (Some Dot) None)))))) ≡ Some sign → b ∷ [] ≡ s.sign_text sign
    go true is p2 _ p3 _ p4 _ p5 _ p6 _ p7 _ e = one 0x28 LeftParenthesis is refl e
    go false _ true is p3 _ p4 _ p5 _ p6 _ p7 _ e = one 0x29 RightParenthesis is refl e
    go false _ false _ true is p4 _ p5 _ p6 _ p7 _ e = one 0x2C Comma is refl e
    go false _ false _ false _ true is p5 _ p6 _ p7 _ e = one 0x3B Semicolon is refl e
    go false _ false _ false _ false _ true is p6 _ p7 _ e = one 0x2A Star is refl e
    go false _ false _ false _ false _ false _ true is p7 _ e = one 0x2D Minus is refl e
    go false _ false _ false _ false _ false _ false _ true is e = one 0x2E Dot is refl e
    go false _ false _ false _ false _ false _ false _ false _ e = absurd cc

-- an operator of these bytes, and what follows it
FoundOperator : List ℕ → Comparison × ℕ → Type 0
FoundOperator bs op = Found bs (Operator op.0, op.1)

pub ends_sign : (sign : S.Sign) (rest : List ℕ) → ends_token (Sign sign) rest ≡ true
ends_sign sign [] = refl
ends_sign sign (b ∷ rest) = refl

pub ends_closed : (op : Comparison) → ((b : ℕ) → goes_on (Operator op) b ≡ false) → (rest : List ℕ) → ends_token (Operator op) rest ≡ true
ends_closed op none [] = refl
ends_closed op none (b ∷ rest) = rw (none b) refl

module _ (b : ℕ) (bs : List ℕ) (op : Comparison × ℕ) where
  one_byte : (is : Comparison) → Spells (b ∷ []) (Operator is) → ends_token (Operator is) bs ≡ true
      → ◌≡◌ {A = Option (Comparison × ℕ)} (Some (is, 1)) (Some op) → FoundOperator (b ∷ bs) op
  unfolding FoundOperator
  one_byte is spells end e = subst (FoundOperator (b ∷ bs)) (some_is (is, 1) op e) (record {
    front = b ∷ [];
    rest = bs;
    parts = refl;
    size = refl;
    spells = spells;
    ended = end;
  })

two_bytes : (b c : ℕ) (bs : List ℕ) (op : Comparison × ℕ) (is : Comparison) → Spells (b ∷ c ∷ []) (Operator is) → ends_token (Operator is) bs ≡ true
    → ◌≡◌ {A = Option (Comparison × ℕ)} (Some (is, 2)) (Some op) → FoundOperator (b ∷ c ∷ bs) op
unfolding FoundOperator
two_bytes b c bs op is spells end e = subst (FoundOperator (b ∷ c ∷ bs)) (some_is (is, 2) op e) (record {
  front = b ∷ c ∷ [];
  rest = bs;
  parts = refl;
  size = refl;
  spells = spells;
  ended = end;
})

less_sound : (bs : List ℕ) (op : Comparison × ℕ) → less_at bs ≡ Some op → FoundOperator (0x3C ∷ bs) op
less_sound [] op e = one_byte 0x3C [] op Lt (s.comparison Lt) refl e
less_sound (c ∷ bs) op e = go (eqb c 0x3D) refl (eqb c 0x3E) refl e
  where
    go : (p : Bool) → eqb c 0x3D ≡ p → (q : Bool) → eqb c 0x3E ≡ q → cond p (Some (Le, 2)) (cond q (Some (Ne, 2)) (Some (Lt, 1))) ≡ Some op
        → FoundOperator (0x3C ∷ c ∷ bs) op
    go true is q _ e =
        subst (λ (x : ℕ). FoundOperator (0x3C ∷ x ∷ bs) op) (sym (eqb-true c 0x3D is)) (two_bytes 0x3C 0x3D bs op Le (s.comparison Le) (ends_closed Le (λ b. refl) bs) e)
    go false _ true is e =
        subst (λ (x : ℕ). FoundOperator (0x3C ∷ x ∷ bs) op) (sym (eqb-true c 0x3E is)) (two_bytes 0x3C 0x3E bs op Ne (s.comparison Ne) (ends_closed Ne (λ b. refl) bs) e)
    go false p false q e = one_byte 0x3C (c ∷ bs) op Lt (s.comparison Lt) (rw (p, q) refl) e

greater_sound : (bs : List ℕ) (op : Comparison × ℕ) → greater_at bs ≡ Some op → FoundOperator (0x3E ∷ bs) op
greater_sound [] op e = one_byte 0x3E [] op Gt (s.comparison Gt) refl e
greater_sound (c ∷ bs) op e = go (eqb c 0x3D) refl e
  where
    go : (p : Bool) → eqb c 0x3D ≡ p → cond p (Some (Ge, 2)) (Some (Gt, 1)) ≡ Some op → FoundOperator (0x3E ∷ c ∷ bs) op
    go true is e =
        subst (λ (x : ℕ). FoundOperator (0x3E ∷ x ∷ bs) op) (sym (eqb-true c 0x3D is)) (two_bytes 0x3E 0x3D bs op Ge (s.comparison Ge) (ends_closed Ge (λ b. refl) bs) e)
    go false p e = one_byte 0x3E (c ∷ bs) op Gt (s.comparison Gt) (rw p refl) e

bang_sound : (bs : List ℕ) (op : Comparison × ℕ) → bang_at bs ≡ Some op → FoundOperator (0x21 ∷ bs) op
bang_sound [] op e = absurd cc
bang_sound (c ∷ bs) op e = go (eqb c 0x3D) refl e
  where
    go : (p : Bool) → eqb c 0x3D ≡ p → cond p (Some (Ne, 2)) None ≡ Some op → FoundOperator (0x21 ∷ c ∷ bs) op
    go true is e =
        subst (λ (x : ℕ). FoundOperator (0x21 ∷ x ∷ bs) op) (sym (eqb-true c 0x3D is)) (two_bytes 0x21 0x3D bs op Ne s.bang (ends_closed Ne (λ b. refl) bs) e)
    go false p e = absurd cc

operator_sound : (b : ℕ) (bs : List ℕ) (op : Comparison × ℕ) → operator_at b bs ≡ Some op → FoundOperator (b ∷ bs) op
operator_sound b bs op e = go (eqb b 0x3C) refl (eqb b 0x3E) refl (eqb b 0x21) refl (eqb b 0x3D) refl e
  where
    go : (p : Bool) → eqb b 0x3C ≡ p → (q : Bool) → eqb b 0x3E ≡ q → (r : Bool) → eqb b 0x21 ≡ r → (t : Bool) → eqb b 0x3D ≡ t
        → cond p (less_at bs) (cond q (greater_at bs) (cond r (bang_at bs) (cond t (Some (Eq, 1)) None))) ≡ Some op → FoundOperator (b ∷ bs) op
    go true is q _ r _ t _ e = subst (λ (x : ℕ). FoundOperator (x ∷ bs) op) (sym (eqb-true b 0x3C is)) (less_sound bs op e)
    go false _ true is r _ t _ e = subst (λ (x : ℕ). FoundOperator (x ∷ bs) op) (sym (eqb-true b 0x3E is)) (greater_sound bs op e)
    go false _ false _ true is t _ e = subst (λ (x : ℕ). FoundOperator (x ∷ bs) op) (sym (eqb-true b 0x21 is)) (bang_sound bs op e)
    go false _ false _ false _ true is e =
        subst (λ (x : ℕ). FoundOperator (x ∷ bs) op) (sym (eqb-true b 0x3D is)) (one_byte 0x3D bs op Eq (s.comparison Eq) (ends_closed Eq (λ b. refl) bs) e)
    go false _ false _ false _ false _ e = absurd cc

mark_sound : (b : ℕ) (bs : List ℕ) (x : Front) → mark_at b bs ≡ Some x → Found (b ∷ bs) x
unfolding mark_at FoundOperator
mark_sound b bs x e = go (sign_at b) refl (operator_at b bs) refl e
  where
    go : (p : Option S.Sign) → sign_at b ≡ p → (q : Option (Comparison × ℕ)) → operator_at b bs ≡ q → mark_of p q ≡ Some x → Found (b ∷ bs) x
    go (Some sign) is q _ e =
        subst (Found (b ∷ bs)) (some_is (Sign sign, 1) x e)
        (record {
          front = b ∷ [];
          rest = bs;
          parts = refl;
          size = refl;
          spells = subst (λ (cs : List ℕ). Spells cs (Sign sign)) (sym (sign_is b sign is)) (s.mark sign);
          ended = ends_sign sign bs;
        })
    go None _ (Some op) is e = subst (Found (b ∷ bs)) (some_is (Operator op.0, op.1) x e) (operator_sound b bs op is)
    go None _ None _ e = absurd cc

pub token_sound : (bs : List ℕ) (x : Front) → token_at bs ≡ Some x → Found bs x
unfolding token_at
token_sound [] x e = absurd cc
token_sound (b ∷ bs) x e = go (eqb b 0x60) refl (eqb b 0x27) refl (is_letter b) refl (is_digit b) refl e
  where
    go : (p : Bool) → eqb b 0x60 ≡ p → (q : Bool) → eqb b 0x27 ≡ q → (l : Bool) → is_letter b ≡ l → (d : Bool) → is_digit b ≡ d
        → cond p (quoted_at bs) (cond q (string_at bs) (cond l (word_at (b ∷ bs)) (cond d (digits_at (b ∷ bs)) (mark_at b bs)))) ≡ Some x → Found (b ∷ bs) x
    go true is q _ l _ d _ e = subst (λ (c : ℕ). Found (c ∷ bs) x) (sym (eqb-true b 0x60 is)) (quoted_sound bs x e)
    go false _ true is l _ d _ e = subst (λ (c : ℕ). Found (c ∷ bs) x) (sym (eqb-true b 0x27 is)) (text_sound bs x e)
    go false _ false _ true is d _ e = word_sound b bs x is e
    go false _ false _ false _ true is e = number_sound b bs x is e
    go false _ false _ false _ false _ e = mark_sound b bs x e

-- ---- each token is read

word_read : (bs : List ℕ) (n : ℕ) → run is_word_byte bs ≡ n → leb n max_word ≡ true → word_at bs ≡ Some (word_kind (keyword_at (take n bs)), n)
unfolding word_at
word_read bs n e short = rw (e, short) refl

number_read : (bs : List ℕ) (n : ℕ) → run is_digit bs ≡ n → first_passes is_word_byte (drop n bs) ≡ false → digits_at bs ≡ Some (Number, n)
unfolding digits_at
number_read bs n e stop = rw (e, stop) refl

quoted_read : (bs : List ℕ) (n : ℕ) → run is_word_byte bs ≡ n → first_passes is_letter bs ≡ true → leb n max_word ≡ true
    → first_passes (λ b. eqb b 0x60) (drop n bs) ≡ true → quoted_at bs ≡ Some (Quoted, n + 2)
unfolding quoted_at
quoted_read bs n e letter short quote = rw (e, letter, short, quote) refl

text_read : (bs : List ℕ) (n : ℕ) → text_len 0 Inside bs ≡ Some n → string_at bs ≡ Some (Text, n + 1)
unfolding string_at
text_read bs n e = rw e refl

-- the parts of what makes a word
pub record WordParts (bytes : List ℕ) : Type 0 where
  pub first : ℕ
  pub others : List ℕ
  pub is : bytes ≡ first ∷ others
  pub letter : is_letter first ≡ true
  pub passes : list_all is_word_byte bytes ≡ true
  pub short : leb (length bytes) max_word ≡ true

pub word_parts : (bytes : List ℕ) → is_word bytes ≡ true → WordParts bytes
word_parts [] h = absurd cc
word_parts (b ∷ bs) h =
    let p = and_parts (is_letter b && list_all is_word_byte bs) (leb (length (b ∷ bs)) max_word) h in
    let q = and_parts (is_letter b) (list_all is_word_byte bs) p.0 in
    record { first = b; others = bs; is = refl; letter = q.0; passes = rw (letter_in_word b q.0, q.1) refl; short = p.1 }

-- a token begins with a byte that is no blank
pub record Starts (bytes : List ℕ) : Type 0 where
  pub first : ℕ
  pub others : List ℕ
  pub is : bytes ≡ first ∷ others
  pub plain : is_blank first ≡ false

word_starts : (bytes : List ℕ) → is_word bytes ≡ true → Starts bytes
word_starts bytes h =
    let w = word_parts bytes h in
    let above = letter_above w.first w.letter in
    record { first = w.first; others = w.others; is = w.is; plain = no_blank w.first (omega arith) }

pub starts : (bytes : List ℕ) (kind : TokenKind) → Spells bytes kind → Starts bytes
starts _ _ (s.keyword_word {bytes} k h) = word_starts bytes (keyword_is_word bytes k h)
starts _ _ (s.word {bytes} h other) = word_starts bytes h
starts _ _ (s.quoted bytes h) = record { first = 0x60; others = bytes ++ 0x60 ∷ []; is = refl; plain = refl }
starts _ _ (s.digits {b} {bytes} h hs) =
    let above = leb-true 48 b (and_parts (leb 48 b) (leb b 57) h).0 in
    record { first = b; others = bytes; is = refl; plain = no_blank b (omega arith) }
starts _ _ (s.string {bytes} r) = record { first = 0x27; others = bytes ++ 0x27 ∷ []; is = refl; plain = refl }
starts _ _ (s.mark LeftParenthesis) = record { first = 0x28; others = []; is = refl; plain = refl }
starts _ _ (s.mark RightParenthesis) = record { first = 0x29; others = []; is = refl; plain = refl }
starts _ _ (s.mark Comma) = record { first = 0x2C; others = []; is = refl; plain = refl }
starts _ _ (s.mark Semicolon) = record { first = 0x3B; others = []; is = refl; plain = refl }
starts _ _ (s.mark Star) = record { first = 0x2A; others = []; is = refl; plain = refl }
starts _ _ (s.mark Minus) = record { first = 0x2D; others = []; is = refl; plain = refl }
starts _ _ (s.mark Dot) = record { first = 0x2E; others = []; is = refl; plain = refl }
starts _ _ (s.comparison Eq) = record { first = 0x3D; others = []; is = refl; plain = refl }
starts _ _ (s.comparison Ne) = record { first = 0x3C; others = 0x3E ∷ []; is = refl; plain = refl }
starts _ _ (s.comparison Lt) = record { first = 0x3C; others = []; is = refl; plain = refl }
starts _ _ (s.comparison Le) = record { first = 0x3C; others = 0x3D ∷ []; is = refl; plain = refl }
starts _ _ (s.comparison Gt) = record { first = 0x3E; others = []; is = refl; plain = refl }
starts _ _ (s.comparison Ge) = record { first = 0x3E; others = 0x3D ∷ []; is = refl; plain = refl }
starts _ _ s.bang = record { first = 0x21; others = 0x3D ∷ []; is = refl; plain = refl }

pub front_word : (b : ℕ) (bs : List ℕ) → is_letter b ≡ true → token_at (b ∷ bs) ≡ word_at (b ∷ bs)
unfolding token_at
front_word b bs h = rw (letter_no_quote b 0x60 refl h, letter_no_quote b 0x27 refl h, h) refl

pub front_number : (b : ℕ) (bs : List ℕ) → is_digit b ≡ true → token_at (b ∷ bs) ≡ digits_at (b ∷ bs)
unfolding token_at
front_number b bs h = rw (digit_no_quote b 0x60 refl h, digit_no_quote b 0x27 refl h, digit_no_letter b h, h) refl

front_quoted : (bs : List ℕ) → token_at (0x60 ∷ bs) ≡ quoted_at bs
unfolding token_at
front_quoted bs = refl

pub front_text : (bs : List ℕ) → token_at (0x27 ∷ bs) ≡ string_at bs
unfolding token_at
front_text bs = refl

word_again : (bytes rest : List ℕ) → is_word bytes ≡ true → first_passes is_word_byte rest ≡ false
    → token_at (bytes ++ rest) ≡ Some (word_kind (keyword_at bytes), length bytes)
word_again bytes rest h stop =
    let w = word_parts bytes h in
    let front : token_at (bytes ++ rest) ≡ word_at (bytes ++ rest) = rw w.is (front_word w.first (w.others ++ rest) w.letter) in
    front ∙ word_read (bytes ++ rest) (length bytes) (run_exact is_word_byte bytes w.passes rest stop) w.short ∙ rw (take-append_seam bytes rest) refl

quoted_again : (bytes rest : List ℕ) → is_word bytes ≡ true → quoted_at (bytes ++ 0x60 ∷ rest) ≡ Some (Quoted, length bytes + 2)
quoted_again bytes rest h =
    let w = word_parts bytes h in
    let letter : first_passes is_letter (bytes ++ 0x60 ∷ rest) ≡ true = subst (λ (cs : List ℕ). first_passes is_letter (cs ++ 0x60 ∷ rest) ≡ true) (sym w.is) w.letter in
    let quote : first_passes (λ b. eqb b 0x60) (drop (length bytes) (bytes ++ 0x60 ∷ rest)) ≡ true = rw (drop-append_seam bytes (0x60 ∷ rest)) refl in
    quoted_read (bytes ++ 0x60 ∷ rest) (length bytes) (run_exact is_word_byte bytes w.passes (0x60 ∷ rest) refl) letter w.short quote

no_digit : (rest : List ℕ) → first_passes is_word_byte rest ≡ false → first_passes is_digit rest ≡ false
no_digit [] h = refl
no_digit (b ∷ rest) h = (or_parts (is_letter b) (is_digit b) h).1

digits_again : (b : ℕ) (bs rest : List ℕ) → is_digit b ≡ true → list_all is_digit bs ≡ true → first_passes is_word_byte rest ≡ false
    → token_at ((b ∷ bs) ++ rest) ≡ Some (Number, length (b ∷ bs))
digits_again b bs rest h hs stop =
    let passes : list_all is_digit (b ∷ bs) ≡ true = rw (h, hs) refl in
    let trailing : first_passes is_word_byte (drop (length (b ∷ bs)) ((b ∷ bs) ++ rest)) ≡ false = rw (drop-append_seam (b ∷ bs) rest) stop in
    front_number b (bs ++ rest) h ∙ number_read ((b ∷ bs) ++ rest) (length (b ∷ bs)) (run_exact is_digit (b ∷ bs) passes rest (no_digit rest stop)) trailing

less_again : (rest : List ℕ) → ends_token (Operator Lt) rest ≡ true → less_at rest ≡ Some (Lt, 1)
less_again [] h = refl
less_again (c ∷ rest) h = go (eqb c 0x3D) (eqb c 0x3E) h
  where
    go : (p q : Bool) → not (p || q) ≡ true → cond {A = Option (Comparison × ℕ)} p (Some (Le, 2)) (cond q (Some (Ne, 2)) (Some (Lt, 1))) ≡ Some (Lt, 1)
    go true q h = absurd cc
    go false true h = absurd cc
    go false false h = refl

greater_again : (rest : List ℕ) → ends_token (Operator Gt) rest ≡ true → greater_at rest ≡ Some (Gt, 1)
greater_again [] h = refl
greater_again (c ∷ rest) h = go (eqb c 0x3D) h
  where
    go : (p : Bool) → not p ≡ true → cond {A = Option (Comparison × ℕ)} p (Some (Ge, 2)) (Some (Gt, 1)) ≡ Some (Gt, 1)
    go true h = absurd cc
    go false h = refl

pub token_again : (bytes : List ℕ) (kind : TokenKind) → Spells bytes kind → (rest : List ℕ) → ends_token kind rest ≡ true
    → token_at (bytes ++ rest) ≡ Some (kind, length bytes)
unfolding token_at mark_at
token_again _ _ (s.keyword_word {bytes} k h) rest end =
    word_again bytes rest (keyword_is_word bytes k h) (begins_none (Keyword k) is_word_byte (λ b. refl) rest end) ∙ rw (keyword_again bytes k h) refl
token_again _ _ (s.word {bytes} h other) rest end =
    word_again bytes rest h (begins_none Word is_word_byte (λ b. refl) rest end) ∙ rw (no_keyword_again bytes other) refl
token_again _ _ (s.quoted bytes h) rest end =
    let parts : (bytes ++ 0x60 ∷ []) ++ rest ≡ bytes ++ 0x60 ∷ rest = append_assoc bytes (0x60 ∷ []) rest in
    let size : length bytes + 2 ≡ length (0x60 ∷ bytes ++ 0x60 ∷ []) = omega (arith, length-append bytes (0x60 ∷ [])) in
    front_quoted ((bytes ++ 0x60 ∷ []) ++ rest) ∙ ap quoted_at parts ∙ quoted_again bytes rest h ∙ ap (λ (n : ℕ). Some (Quoted, n)) size
token_again _ _ (s.digits {b} {bytes} h hs) rest end = digits_again b bytes rest h hs (begins_none Number is_word_byte (λ b. refl) rest end)
token_again _ _ (s.string {bytes} r) rest end =
    let parts : (bytes ++ 0x27 ∷ []) ++ rest ≡ bytes ++ 0x27 ∷ rest = append_assoc bytes (0x27 ∷ []) rest in
    let size : length bytes + 1 + 1 ≡ length (0x27 ∷ bytes ++ 0x27 ∷ []) = omega (arith, length-append bytes (0x27 ∷ [])) in
    front_text ((bytes ++ 0x27 ∷ []) ++ rest) ∙ ap string_at parts ∙ text_read (bytes ++ 0x27 ∷ rest) (length bytes + 1) (closes r rest end)
    ∙ ap (λ (n : ℕ). Some (Text, n)) size
token_again _ _ (s.mark LeftParenthesis) rest end = refl
token_again _ _ (s.mark RightParenthesis) rest end = refl
token_again _ _ (s.mark Comma) rest end = refl
token_again _ _ (s.mark Semicolon) rest end = refl
token_again _ _ (s.mark Star) rest end = refl
token_again _ _ (s.mark Minus) rest end = refl
token_again _ _ (s.mark Dot) rest end = refl
token_again _ _ (s.comparison Eq) rest end = refl
token_again _ _ (s.comparison Ne) rest end = refl
token_again _ _ (s.comparison Lt) rest end = rw (less_again rest end) refl
token_again _ _ (s.comparison Le) rest end = refl
token_again _ _ (s.comparison Gt) rest end = rw (greater_again rest end) refl
token_again _ _ (s.comparison Ge) rest end = refl
token_again _ _ s.bang rest end = refl
