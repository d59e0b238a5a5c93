-- The piece at a text's front: what is read is a piece that stands there.
use Rattle.std.proofs.Common.{◌≡◌, ℕ, zero, suc, ◌+◌, ◌<◌, Bool, true, false, cond, eqb, leb, not, ◌&&◌, ◌||◌, List, [], ◌∷◌, ◌++◌, length, take, drop, Option, Some, None, refl, sym, ap, subst, ◌∙◌, append_assoc, arith, inl, inr}
use Rattle.std.specs.Prelude.{option_map}
use Rattle.std.proofs.lemmas.Bool.{leb-true, lt-leb, ne_eqb, eqb-true, and_parts, or_cases, or_parts, and_right}
use Rattle.std.proofs.lemmas.List.{length-append, take-append-drop, length-take}
use Rattle.sql_lexer.specs.Lexemes.{is_blank, is_letter, is_digit, is_word_byte}
use Rattle.sql_lexer.specs.inner.Scanning.{run, first_passes}
use Rattle.sql_lexer.proofs.Options.{some_is, guard_some, unless_some}
use Rattle.sql_lexer.proofs.Runs.{run_within, run_passes, run_stops}
use Rattle.client_statements.specs.declared.tokens.body.TextState.TheVariants.{Inside}
use Rattle.client_statements.specs.declared.tokens.token.Sign as S
use Rattle.client_statements.specs.declared.tokens.token.Sign.TheVariants.{Assign, Comma, Dot, LeftParenthesis, RightParenthesis, Semicolon, Star, Minus}
use Rattle.client_statements.specs.declared.tokens.token.TokenKind.TheVariants.{Word, Name, Variable, Number, Text, Sign}
use Rattle.client_statements.specs.tokens.Keywords.{keyword_of}
use Rattle.client_statements.specs.tokens.Pieces.{in_line, in_name, is_quote, is_operator_byte, operator_kind, begins_dashes, may_follow, IsPiece}
use Rattle.client_statements.specs.tokens.Pieces as s
use Rattle.client_statements.specs.tokens.inner.Scanning.{Front, remark_len, text_len, number_at, text_at, word_at, is_name_before, name_at, variable_at, dashes_at, remark_at, assigns_at, sign_at, mark_at, operator_at, piece_at}
use Rattle.client_statements.proofs.tokens.Remarks.{first_is, remark_sound}
use Rattle.client_statements.proofs.tokens.Texts.{text_closed}

-- ---- bytes

pub digit_no_letter : (b : ℕ) → is_digit b ≡ true → is_letter b ≡ false
digit_no_letter b h =
    let p = and_parts (leb 48 b) (leb b 57) h in
    let high = leb-true b 57 p.1 in
    rw (lt-leb 65 b (omega arith), lt-leb 97 b (omega arith), ne_eqb b 95 (λ e. omega arith)) refl

letter_above : (b : ℕ) → is_letter b ≡ true → 64 < b
letter_above b h = elim (or_cases ((leb 65 b && leb b 90) || (leb 97 b && leb b 122)) (eqb b 95) h) [
  | inl x ↦ elim (or_cases (leb 65 b && leb b 90) (leb 97 b && leb b 122) x) [
    | inl y ↦ let e = leb-true 65 b (and_parts (leb 65 b) (leb b 90) y).0 in omega arith
    | inr y ↦ let e = leb-true 97 b (and_parts (leb 97 b) (leb b 122) y).0 in omega arith
  ]
  | inr x ↦ let e = eqb-true b 95 x in omega arith
]

no_blank : (b : ℕ) → 32 < b → is_blank b ≡ false
no_blank b h = rw (ne_eqb b 32 (λ e. omega arith), lt-leb b 13 (omega arith)) (and_right (leb 9 b) false refl)

pub letter_no_blank : (b : ℕ) → is_letter b ≡ true → is_blank b ≡ false
letter_no_blank b h = let above = letter_above b h in no_blank b (omega arith)

pub digit_no_blank : (b : ℕ) → is_digit b ≡ true → is_blank b ≡ false
digit_no_blank b h = let low = leb-true 48 b (and_parts (leb 48 b) (leb b 57) h).0 in no_blank b (omega arith)

pub passes_not : (t : Bool) → not t ≡ false → t ≡ true
passes_not true h = refl
passes_not false h = absurd cc

pub fails_not : (t : Bool) → not t ≡ true → t ≡ false
fails_not true h = absurd cc
fails_not false h = refl

pub no_digit : (rest : List ℕ) → first_passes is_word_byte rest ≡ false → first_passes is_digit rest ≡ false
no_digit [] h = refl
no_digit (b ∷ rest) h = (or_parts (is_letter b) (is_digit b) h).1

pub map_some : {A B : Type 0} (f : A → B) (o : Option A) (y : B) → option_map f o ≡ Some y → (x : A) × (o ≡ Some x) × (f x ≡ y)
map_some f None y e = absurd cc
map_some f (Some x) y e = (x, refl, some_is (f x) y e)

-- ---- what is read is a piece

-- a piece that stands at the front
pub record Found (bs : List ℕ) (x : Front) : Type 0 where
  pub front : List ℕ
  pub rest : List ℕ
  pub parts : bs ≡ front ++ rest
  pub size : x.1 ≡ length front
  pub stands : IsPiece front rest x.0

run_size : (p : ℕ → Bool) (bs : List ℕ) → run p bs ≡ length (take (run p bs) bs)
run_size p bs = let within = run_within p bs in omega (arith, length-take (run p bs) bs)

run_parts : (p : ℕ → Bool) (bs : List ℕ) → bs ≡ take (run p bs) bs ++ drop (run p bs) bs
run_parts p bs = sym (take-append-drop (run p bs) bs)

word_sound : (b : ℕ) (bs : List ℕ) → is_letter b ≡ true → Found (b ∷ bs) (Some (Word (keyword_of (b ∷ take (run is_word_byte bs) bs))), suc (run is_word_byte bs))
word_sound b bs letter = record {
  front = b ∷ take (run is_word_byte bs) bs;
  rest = drop (run is_word_byte bs) bs;
  parts = ap (λ (cs : List ℕ). b ∷ cs) (run_parts is_word_byte bs);
  size = ap suc (run_size is_word_byte bs);
  stands = s.word letter (run_passes is_word_byte bs) (run_stops is_word_byte bs);
}

pub run_more : (b : ℕ) (bs : List ℕ) → is_letter b ≡ true → run is_word_byte (b ∷ bs) ≡ suc (run is_word_byte bs)
run_more b bs h = rw h refl

word_found : (b : ℕ) (bs : List ℕ) (x : Front) → is_letter b ≡ true → word_at (b ∷ bs) ≡ Some x → Found (b ∷ bs) x
unfolding word_at
word_found b bs x letter e =
    let e2 : ◌≡◌ {A = Option Front} (Some (Some (Word (keyword_of (b ∷ take (run is_word_byte bs) bs))), suc (run is_word_byte bs))) (Some x) =
    subst (λ (m : ℕ). ◌≡◌ {A = Option Front} (Some (Some (Word (keyword_of (take m (b ∷ bs)))), m)) (Some x)) (run_more b bs letter) e in
    subst (Found (b ∷ bs)) (some_is (Some (Word (keyword_of (b ∷ take (run is_word_byte bs) bs))), suc (run is_word_byte bs)) x e2) (word_sound b bs letter)

pub operator_more : (b : ℕ) (bs : List ℕ) → is_operator_byte b ≡ true → run is_operator_byte (b ∷ bs) ≡ suc (run is_operator_byte bs)
operator_more b bs h = rw h refl

operator_sound : (b : ℕ) (bs : List ℕ) → is_operator_byte b ≡ true
    → Found (b ∷ bs) (Some (operator_kind (b ∷ take (run is_operator_byte bs) bs)), suc (run is_operator_byte bs))
operator_sound b bs is = record {
  front = b ∷ take (run is_operator_byte bs) bs;
  rest = drop (run is_operator_byte bs) bs;
  parts = ap (λ (cs : List ℕ). b ∷ cs) (run_parts is_operator_byte bs);
  size = ap suc (run_size is_operator_byte bs);
  stands = s.operator is (run_passes is_operator_byte bs) (run_stops is_operator_byte bs);
}

operator_found : (b : ℕ) (bs : List ℕ) (x : Front) → is_operator_byte b ≡ true → operator_at (b ∷ bs) ≡ Some x → Found (b ∷ bs) x
unfolding operator_at
operator_found b bs x is e =
    let e2 : ◌≡◌ {A = Option Front} (Some (Some (operator_kind (b ∷ take (run is_operator_byte bs) bs)), suc (run is_operator_byte bs))) (Some x) =
    subst (λ (m : ℕ). ◌≡◌ {A = Option Front} (Some (Some (operator_kind (take m (b ∷ bs))), m)) (Some x)) (operator_more b bs is) e in
    subst (Found (b ∷ bs)) (some_is (Some (operator_kind (b ∷ take (run is_operator_byte bs) bs)), suc (run is_operator_byte bs)) x e2) (operator_sound b bs is)

number_sound : (b : ℕ) (bs : List ℕ) (x : Front) → is_digit b ≡ true → number_at bs ≡ Some x → Found (b ∷ bs) x
unfolding number_at
number_sound b bs x digit e =
    let g = unless_some (first_passes is_word_byte (drop (run is_digit bs) bs)) (Some Number, suc (run is_digit bs)) x e in
    subst (Found (b ∷ bs)) g.1 (record {
      front = b ∷ take (run is_digit bs) bs;
      rest = drop (run is_digit bs) bs;
      parts = ap (λ (cs : List ℕ). b ∷ cs) (run_parts is_digit bs);
      size = ap suc (run_size is_digit bs);
      stands = s.number digit (run_passes is_digit bs) g.0;
    })

text_sound : (q : ℕ) (bs : List ℕ) (x : Front) → is_quote q ≡ true → text_at q bs ≡ Some x → Found (q ∷ bs) x
unfolding text_at
text_sound q bs x quote e =
    let a = map_some (λ n. (Some Text, n + 1)) (text_len q 0 Inside bs) x e in
    let c = text_closed q bs a.0 a.1 in
    subst (Found (q ∷ bs)) a.2 (record {
      front = q ∷ c.raw ++ q ∷ [];
      rest = c.rest;
      parts = ap (λ (cs : List ℕ). q ∷ cs) (c.parts ∙ sym (append_assoc c.raw (q ∷ []) c.rest));
      size = omega (arith, c.size, length-append c.raw (q ∷ []));
      stands = s.text quote c.body c.ended;
    })

name_sound : (bs : List ℕ) (x : Front) → name_at bs ≡ Some x → Found (0x60 ∷ bs) x
unfolding name_at
name_sound bs x e =
    let n = run in_name bs in
    let g = guard_some (is_name_before (drop n bs)) (Some Name, n + 2) x e in
    subst (Found (0x60 ∷ bs)) g.1 (go (drop n bs) refl g.0 (run_stops in_name bs))
  where
    go : (rest : List ℕ) → drop (run in_name bs) bs ≡ rest → is_name_before rest ≡ true → first_passes in_name rest ≡ false
        → Found (0x60 ∷ bs) (Some Name, run in_name bs + 2)
    go [] is before stop = absurd cc
    go (b ∷ rest) is before stop =
        let quote : b ≡ 0x60 = eqb-true b 0x60 (passes_not (eqb b 0x60) stop) in
        let word = take (run in_name bs) bs in
        let trailing : drop (run in_name bs) bs ≡ 0x60 ∷ rest = is ∙ ap (λ (c : ℕ). c ∷ rest) quote in
        let parts : bs ≡ (word ++ 0x60 ∷ []) ++ rest =
        run_parts in_name bs ∙ ap (λ (cs : List ℕ). word ++ cs) trailing ∙ sym (append_assoc word (0x60 ∷ []) rest) in
        record {
          front = 0x60 ∷ word ++ 0x60 ∷ [];
          rest = rest;
          parts = ap (λ (cs : List ℕ). 0x60 ∷ cs) parts;
          size = omega (arith, run_size in_name bs, length-append word (0x60 ∷ []));
          stands = s.name word (run_passes in_name bs) (fails_not (first_passes (λ c. eqb c 0x60) rest) before);
        }

variable_sound : (bs : List ℕ) (x : Front) → variable_at bs ≡ Some x → Found (0x40 ∷ bs) x
unfolding variable_at
variable_sound [] x e = absurd cc
variable_sound (a ∷ bs) x e =
    let g = guard_some (eqb a 0x40 && first_passes is_letter bs) (Some Variable, run is_word_byte bs + 2) x e in
    let p = and_parts (eqb a 0x40) (first_passes is_letter bs) g.0 in
    subst (λ (c : ℕ). Found (0x40 ∷ c ∷ bs) x) (sym (eqb-true a 0x40 p.0)) (subst (Found (0x40 ∷ 0x40 ∷ bs)) g.1 (go bs p.1))
  where
    go : (bs : List ℕ) → first_passes is_letter bs ≡ true → Found (0x40 ∷ 0x40 ∷ bs) (Some Variable, run is_word_byte bs + 2)
    go [] letter = absurd cc
    go (b ∷ bs) letter =
        let more : run is_word_byte (b ∷ bs) ≡ suc (run is_word_byte bs) = rw letter refl in
        record {
          front = 0x40 ∷ 0x40 ∷ b ∷ take (run is_word_byte bs) bs;
          rest = drop (run is_word_byte bs) bs;
          parts = ap (λ (cs : List ℕ). 0x40 ∷ 0x40 ∷ b ∷ cs) (run_parts is_word_byte bs);
          size = omega (arith, more, run_size is_word_byte bs);
          stands = s.variable letter (run_passes is_word_byte bs) (run_stops is_word_byte bs);
        }

hash_sound : (bs : List ℕ) → Found (0x23 ∷ bs) (None, suc (run in_line bs))
hash_sound bs = record {
  front = 0x23 ∷ take (run in_line bs) bs;
  rest = drop (run in_line bs) bs;
  parts = ap (λ (cs : List ℕ). 0x23 ∷ cs) (run_parts in_line bs);
  size = ap suc (run_size in_line bs);
  stands = s.hash (run_passes in_line bs) (run_stops in_line bs);
}

-- what begins with a blank, or is empty, does so up to any place
takes_blank : (n : ℕ) (bs : List ℕ) → first_passes (λ b. not (is_blank b)) bs ≡ false → first_passes (λ b. not (is_blank b)) (take n bs) ≡ false
takes_blank zero bs h = refl
takes_blank (suc n) [] h = refl
takes_blank (suc n) (b ∷ bs) h = h

minus_sound : (bs : List ℕ) → begins_dashes bs ≡ false → Found (0x2D ∷ bs) (Some (Sign Minus), 1)
minus_sound bs alone = record {
  front = 0x2D ∷ [];
  rest = bs;
  parts = refl;
  size = refl;
  stands = s.sign Minus (ap not alone);
}

dashes_sound : (bs : List ℕ) (x : Front) → dashes_at bs ≡ Some x → Found (0x2D ∷ bs) x
unfolding dashes_at
dashes_sound [] x e = subst (Found (0x2D ∷ [])) (some_is (Some (Sign Minus), 1) x e) (minus_sound [] refl)
dashes_sound (a ∷ bs) x e = go (eqb a 0x2D && not (first_passes (λ c. not (is_blank c)) bs)) refl e
  where
    go : (t : Bool) → (eqb a 0x2D && not (first_passes (λ c. not (is_blank c)) bs)) ≡ t
        → cond t (Some (None, run in_line bs + 2)) (Some (Some (Sign Minus), 1)) ≡ Some x → Found (0x2D ∷ a ∷ bs) x
    go false is e = subst (Found (0x2D ∷ a ∷ bs)) (some_is (Some (Sign Minus), 1) x e) (minus_sound (a ∷ bs) is)
    go true is e =
        let p = and_parts (eqb a 0x2D) (not (first_passes (λ c. not (is_blank c)) bs)) is in
        subst (λ (c : ℕ). Found (0x2D ∷ c ∷ bs) x) (sym (eqb-true a 0x2D p.0)) (subst (Found (0x2D ∷ 0x2D ∷ bs)) (some_is (None, run in_line bs + 2) x e) (record {
          front = 0x2D ∷ 0x2D ∷ take (run in_line bs) bs;
          rest = drop (run in_line bs) bs;
          parts = ap (λ (cs : List ℕ). 0x2D ∷ 0x2D ∷ cs) (run_parts in_line bs);
          size = omega (arith, run_size in_line bs);
          stands = s.dashes (run_passes in_line bs) (run_stops in_line bs) (takes_blank (run in_line bs) bs (fails_not (first_passes (λ c. not (is_blank c)) bs) p.1));
        }))

-- what is first does not depend on what follows it
first_inside : (p : ℕ → Bool) (xs : List ℕ) (r : List ℕ) → first_passes p (xs ++ r) ≡ false → first_passes p xs ≡ false
first_inside p [] r h = refl
first_inside p (x ∷ xs) r h = h

remark_found : (bs : List ℕ) (x : Front) → remark_at bs ≡ Some x → Found (0x2F ∷ bs) x
unfolding remark_at
remark_found [] x e = absurd cc
remark_found (a ∷ bs) x e = go (eqb a 0x2A && not (first_passes (λ c. eqb c 0x21) bs)) refl e
  where
    go : (t : Bool) → (eqb a 0x2A && not (first_passes (λ c. eqb c 0x21) bs)) ≡ t → cond t (option_map (λ n. (None, n + 2)) (remark_len bs)) None ≡ Some x
        → Found (0x2F ∷ a ∷ bs) x
    go false is e = absurd cc
    go true is e =
        let p = and_parts (eqb a 0x2A) (not (first_passes (λ c. eqb c 0x21) bs)) is in
        let m = map_some (λ n. (None, n + 2)) (remark_len bs) x e in
        let r = remark_sound bs m.0 m.1 in
        let plain : first_passes (λ c. eqb c 0x21) (r.inside ++ 0x2A ∷ 0x2F ∷ r.rest) ≡ false =
        subst (λ (cs : List ℕ). first_passes (λ c. eqb c 0x21) cs ≡ false) r.parts (fails_not (first_passes (λ c. eqb c 0x21) bs) p.1) in
        subst (λ (c : ℕ). Found (0x2F ∷ c ∷ bs) x) (sym (eqb-true a 0x2A p.0)) (subst (Found (0x2F ∷ 0x2A ∷ bs)) m.2 (record {
          front = 0x2F ∷ 0x2A ∷ r.inside ++ 0x2A ∷ 0x2F ∷ [];
          rest = r.rest;
          parts = ap (λ (cs : List ℕ). 0x2F ∷ 0x2A ∷ cs) (r.parts ∙ sym (append_assoc r.inside (0x2A ∷ 0x2F ∷ []) r.rest));
          size = omega (arith, r.size, length-append r.inside (0x2A ∷ 0x2F ∷ []));
          stands = s.remark r.inside (first_inside (λ c. eqb c 0x21) r.inside (0x2A ∷ 0x2F ∷ r.rest) plain) r.unclosed;
        }))

assigns_sound : (bs : List ℕ) (x : Front) → assigns_at bs ≡ Some x → Found (0x3A ∷ bs) x
unfolding assigns_at
assigns_sound bs x e =
    let g = guard_some (first_passes (λ c. eqb c 0x3D) bs) (Some (Sign Assign), 2) x e in
    let f = first_is (λ c. eqb c 0x3D) bs g.0 in
    let parts : bs ≡ 0x3D ∷ f.1 = f.2 ∙ ap (λ (c : ℕ). c ∷ f.1) (eqb-true f.0 0x3D f.3) in
    subst (Found (0x3A ∷ bs)) g.1 (record {
      front = 0x3A ∷ 0x3D ∷ [];
      rest = f.1;
      parts = ap (λ (cs : List ℕ). 0x3A ∷ cs) parts;
      size = refl;
      stands = s.sign Assign refl;
    })

-- a sign of one byte, which any bytes may follow
record OneByte (b : ℕ) (sign : S.Sign) : Type 0 where
  pub text : b ∷ [] ≡ s.sign_text sign
  pub follows : (rest : List ℕ) → may_follow sign rest ≡ true

sign_is : (b : ℕ) (sign : S.Sign) → sign_at b ≡ Some sign → OneByte b sign
sign_is b sign e = go (eqb b 0x2A) refl (eqb b 0x2C) refl (eqb b 0x2E) refl (eqb b 0x28) refl (eqb b 0x29) refl (eqb b 0x3B) refl e
  where
    one : (c : ℕ) (other : S.Sign) → eqb b c ≡ true → c ∷ [] ≡ s.sign_text other → ((rest : List ℕ) → may_follow other rest ≡ true)
        → ◌≡◌ {A = Option S.Sign} (Some other) (Some sign) → OneByte b sign
    one c other is text follows e = subst (OneByte b) (some_is other sign e) (record { text = ap (λ (x : ℕ). x ∷ []) (eqb-true b c is) ∙ text; follows = follows })

    go : (p1 : Bool) → eqb b 0x2A ≡ p1 → (p2 : Bool) → eqb b 0x2C ≡ p2 → (p3 : Bool) → eqb b 0x2E ≡ p3 → (p4 : Bool) → eqb b 0x28 ≡ p4 → (p5 : Bool)
        → eqb b 0x29 ≡ p5 → (p6 : Bool) → eqb b 0x3B ≡ p6
        → cond p1 (Some Star) (cond p2 (Some Comma) (cond p3 (Some Dot) (cond p4 (Some LeftParenthesis) (cond p5 (Some RightParenthesis)
        (cond p6 (Some Semicolon) None))))) ≡ Some sign → OneByte b sign
    go true is p2 _ p3 _ p4 _ p5 _ p6 _ e = one 0x2A Star is refl (λ rest. refl) e
    go false _ true is p3 _ p4 _ p5 _ p6 _ e = one 0x2C Comma is refl (λ rest. refl) e
    go false _ false _ true is p4 _ p5 _ p6 _ e = one 0x2E Dot is refl (λ rest. refl) e
    go false _ false _ false _ true is p5 _ p6 _ e = one 0x28 LeftParenthesis is refl (λ rest. refl) e
    go false _ false _ false _ false _ true is p6 _ e = one 0x29 RightParenthesis is refl (λ rest. refl) e
    go false _ false _ false _ false _ false _ true is e = one 0x3B Semicolon is refl (λ rest. refl) e
    go false _ false _ false _ false _ false _ false _ e = absurd cc

sign_sound : (b : ℕ) (bs : List ℕ) (x : Front) → option_map (λ sign. (Some (Sign sign), 1)) (sign_at b) ≡ Some x → Found (b ∷ bs) x
sign_sound b bs x e =
    let m = map_some (λ sign. (Some (Sign sign), 1)) (sign_at b) x e in
    let one = sign_is b m.0 m.1 in
    subst (Found (b ∷ bs)) m.2 (record {
      front = b ∷ [];
      rest = bs;
      parts = refl;
      size = refl;
      stands = subst (λ (cs : List ℕ). IsPiece cs bs (Some (Sign m.0))) (sym one.text) (s.sign m.0 (one.follows bs));
    })

mark_sound : (b : ℕ) (bs : List ℕ) (x : Front) → mark_at b bs ≡ Some x → Found (b ∷ bs) x
unfolding mark_at
mark_sound b bs x e = go (eqb b 0x60) refl (eqb b 0x40) refl (eqb b 0x23) refl (eqb b 0x2D) refl (eqb b 0x2F) refl (eqb b 0x3A) refl e
  where
    at : (c : ℕ) → eqb b c ≡ true → Found (c ∷ bs) x → Found (b ∷ bs) x
    at c is f = subst (λ (d : ℕ). Found (d ∷ bs) x) (sym (eqb-true b c is)) f

    go : (p1 : Bool) → eqb b 0x60 ≡ p1 → (p2 : Bool) → eqb b 0x40 ≡ p2 → (p3 : Bool) → eqb b 0x23 ≡ p3 → (p4 : Bool) → eqb b 0x2D ≡ p4 → (p5 : Bool)
        → eqb b 0x2F ≡ p5 → (p6 : Bool) → eqb b 0x3A ≡ p6
        → cond p1 (name_at bs) (cond p2 (variable_at bs) (cond p3 (Some (None, suc (run in_line bs))) (cond p4 (dashes_at bs) (cond p5 (remark_at bs)
        (cond p6 (assigns_at bs) (option_map (λ sign. (Some (Sign sign), 1)) (sign_at b))))))) ≡ Some x → Found (b ∷ bs) x
    go true is p2 _ p3 _ p4 _ p5 _ p6 _ e = at 0x60 is (name_sound bs x e)
    go false _ true is p3 _ p4 _ p5 _ p6 _ e = at 0x40 is (variable_sound bs x e)
    go false _ false _ true is p4 _ p5 _ p6 _ e = at 0x23 is (subst (Found (0x23 ∷ bs)) (some_is (None, suc (run in_line bs)) x e) (hash_sound bs))
    go false _ false _ false _ true is p5 _ p6 _ e = at 0x2D is (dashes_sound bs x e)
    go false _ false _ false _ false _ true is p6 _ e = at 0x2F is (remark_found bs x e)
    go false _ false _ false _ false _ false _ true is e = at 0x3A is (assigns_sound bs x e)
    go false _ false _ false _ false _ false _ false _ e = sign_sound b bs x e

pub piece_sound : (bs : List ℕ) (x : Front) → piece_at bs ≡ Some x → Found bs x
unfolding piece_at
piece_sound [] x e = absurd cc
piece_sound (b ∷ bs) x e = go (is_blank b) refl (is_letter b) refl (is_digit b) refl (is_quote b) refl (is_operator_byte b) refl e
  where
    go : (p : Bool) → is_blank b ≡ p → (l : Bool) → is_letter b ≡ l → (d : Bool) → is_digit b ≡ d → (q : Bool) → is_quote b ≡ q
        → (o : Bool) → is_operator_byte b ≡ o
        → cond p (Some (None, 1)) (cond l (word_at (b ∷ bs)) (cond d (number_at bs) (cond q (text_at b bs) (cond o (operator_at (b ∷ bs)) (mark_at b bs))))) ≡ Some x
        → Found (b ∷ bs) x
    go true is l _ d _ q _ o _ e = subst (Found (b ∷ bs)) (some_is (None, 1) x e) (record {
      front = b ∷ [];
      rest = bs;
      parts = refl;
      size = refl;
      stands = s.blank is;
    })
    go false _ true is d _ q _ o _ e = word_found b bs x is e
    go false _ false _ true is q _ o _ e = number_sound b bs x is e
    go false _ false _ false _ true is o _ e = text_sound b bs x is e
    go false _ false _ false _ false _ true is e = operator_found b bs x is e
    go false _ false _ false _ false _ false _ e = mark_sound b bs x e
