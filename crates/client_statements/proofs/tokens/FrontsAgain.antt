-- The piece at a text's front: each piece that stands there is read.
use Rattle.std.proofs.Common.{◌≡◌, ℕ, suc, ◌+◌, ◌<◌, Bool, true, false, eqb, not, ◌||◌, List, [], ◌∷◌, ◌++◌, length, take, Option, Some, None, refl, sym, ap, subst, ◌∙◌, append_assoc, arith, inl, inr}
use Rattle.std.specs.List.{list_all}
use Rattle.std.proofs.lemmas.Bool.{eqb-true, or_cases}
use Rattle.std.proofs.lemmas.List.{length-append}
use Rattle.std.proofs.Math.Seq.{take-append_seam, drop-append_seam}
use Rattle.sql_lexer.specs.Lexemes.{is_blank, is_letter, is_digit, is_word_byte}
use Rattle.sql_lexer.specs.inner.Scanning.{run, first_passes}
use Rattle.sql_lexer.proofs.Runs.{run_exact}
use Rattle.client_statements.specs.declared.tokens.body.TextState.TheVariants.{Inside}
use Rattle.client_statements.specs.declared.tokens.token.Sign as S
use Rattle.client_statements.specs.declared.tokens.token.Sign.TheVariants.{Equal, Assign, Comma, Dot, LeftParenthesis, RightParenthesis, Semicolon, Star, Minus}
use Rattle.client_statements.specs.declared.tokens.token.TokenKind.{TokenKind}
use Rattle.client_statements.specs.declared.tokens.token.TokenKind.TheVariants.{Word, Name, Variable, Number, Text, Sign}
use Rattle.client_statements.specs.tokens.Keywords.{keyword_of}
use Rattle.client_statements.specs.tokens.Pieces.{in_line, in_name, is_quote, is_operator_byte, operator_kind, begins_dashes, may_follow, has_close, IsPiece}
use Rattle.client_statements.specs.tokens.Pieces as s
use Rattle.client_statements.specs.tokens.inner.Scanning.{Front, text_len, number_at, text_at, word_at, name_at, variable_at, dashes_at, remark_at, assigns_at, mark_at, operator_at, piece_at}
use Rattle.client_statements.proofs.tokens.Remarks.{remark_again}
use Rattle.client_statements.proofs.tokens.Texts.{closes, quote_apart}
use Rattle.client_statements.proofs.tokens.Fronts.{digit_no_letter, letter_no_blank, digit_no_blank, passes_not, fails_not, no_digit, run_more, operator_more}

module _ (b : ℕ) (bs : List ℕ) where
  front_word : is_letter b ≡ true → piece_at (b ∷ bs) ≡ word_at (b ∷ bs)
  unfolding piece_at
  front_word h = rw (letter_no_blank b h, h) refl

  front_number : is_digit b ≡ true → piece_at (b ∷ bs) ≡ number_at bs
  unfolding piece_at
  front_number h = rw (digit_no_blank b h, digit_no_letter b h, h) refl

front_text : (q : ℕ) (bs : List ℕ) → is_quote q ≡ true → piece_at (q ∷ bs) ≡ text_at q bs
unfolding piece_at
front_text q bs h = elim (or_cases (eqb q 0x27) (eqb q 0x22) h) [
  | inl x ↦ subst (λ (c : ℕ). piece_at (c ∷ bs) ≡ text_at c bs) (sym (eqb-true q 0x27 x)) refl
  | inr x ↦ subst (λ (c : ℕ). piece_at (c ∷ bs) ≡ text_at c bs) (sym (eqb-true q 0x22 x)) refl
]

-- an operator byte is one of six
operator_byte : (b : ℕ) (P : ℕ → Type 0) → is_operator_byte b ≡ true → P 0x3C → P 0x3D → P 0x3E → P 0x21 → P 0x26 → P 0x7C → P b
operator_byte b P h p1 p2 p3 p4 p5 p6 = go (eqb b 0x3C) refl (eqb b 0x3D) refl (eqb b 0x3E) refl (eqb b 0x21) refl (eqb b 0x26) refl (eqb b 0x7C) refl h
  where
    at : (c : ℕ) → eqb b c ≡ true → P c → P b
    at c is p = subst P (sym (eqb-true b c is)) p

    go : (b1 : Bool) → eqb b 0x3C ≡ b1 → (b2 : Bool) → eqb b 0x3D ≡ b2 → (b3 : Bool) → eqb b 0x3E ≡ b3 → (b4 : Bool) → eqb b 0x21 ≡ b4
        → (b5 : Bool) → eqb b 0x26 ≡ b5 → (b6 : Bool) → eqb b 0x7C ≡ b6 → (b1 || b2 || b3 || b4 || b5 || b6) ≡ true → P b
    go true is b2 _ b3 _ b4 _ b5 _ b6 _ h = at 0x3C is p1
    go false _ true is b3 _ b4 _ b5 _ b6 _ h = at 0x3D is p2
    go false _ false _ true is b4 _ b5 _ b6 _ h = at 0x3E is p3
    go false _ false _ false _ true is b5 _ b6 _ h = at 0x21 is p4
    go false _ false _ false _ false _ true is b6 _ h = at 0x26 is p5
    go false _ false _ false _ false _ false _ true is h = at 0x7C is p6
    go false _ false _ false _ false _ false _ false _ h = absurd cc

front_operator : (b : ℕ) (bs : List ℕ) → is_operator_byte b ≡ true → piece_at (b ∷ bs) ≡ operator_at (b ∷ bs)
unfolding piece_at
front_operator b bs h = operator_byte b (λ c. piece_at (c ∷ bs) ≡ operator_at (c ∷ bs)) h refl refl refl refl refl refl

front_blank : (b : ℕ) (bs : List ℕ) → is_blank b ≡ true → piece_at (b ∷ bs) ≡ Some (None, 1)
unfolding piece_at
front_blank b bs h = rw h refl

word_read : (b : ℕ) (bs rest : List ℕ) → is_letter b ≡ true → list_all is_word_byte bs ≡ true → first_passes is_word_byte rest ≡ false
    → word_at (b ∷ bs ++ rest) ≡ Some (Some (Word (keyword_of (b ∷ bs))), suc (length bs))
unfolding word_at
word_read b bs rest letter h stop =
    let size : run is_word_byte (b ∷ bs ++ rest) ≡ suc (length bs) = run_more b (bs ++ rest) letter ∙ ap suc (run_exact is_word_byte bs h rest stop) in
    let word : take (suc (length bs)) (b ∷ bs ++ rest) ≡ b ∷ bs = take-append_seam (b ∷ bs) rest in
    ap (λ (m : ℕ). Some (Some (Word (keyword_of (take m (b ∷ bs ++ rest)))), m)) size
    ∙ ap (λ (cs : List ℕ). Some (Some (Word (keyword_of cs)), suc (length bs))) word

operator_read : (b : ℕ) (bs rest : List ℕ) → is_operator_byte b ≡ true → list_all is_operator_byte bs ≡ true → first_passes is_operator_byte rest ≡ false
    → operator_at (b ∷ bs ++ rest) ≡ Some (Some (operator_kind (b ∷ bs)), suc (length bs))
unfolding operator_at
operator_read b bs rest is h stop =
    let size : run is_operator_byte (b ∷ bs ++ rest) ≡ suc (length bs) = operator_more b (bs ++ rest) is ∙ ap suc (run_exact is_operator_byte bs h rest stop) in
    let word : take (suc (length bs)) (b ∷ bs ++ rest) ≡ b ∷ bs = take-append_seam (b ∷ bs) rest in
    ap (λ (m : ℕ). Some (Some (operator_kind (take m (b ∷ bs ++ rest))), m)) size
    ∙ ap (λ (cs : List ℕ). Some (Some (operator_kind cs), suc (length bs))) word

number_read : (bs rest : List ℕ) → list_all is_digit bs ≡ true → first_passes is_word_byte rest ≡ false → number_at (bs ++ rest) ≡ Some (Some Number, suc (length bs))
unfolding number_at
number_read bs rest h stop = rw (run_exact is_digit bs h rest (no_digit rest stop), drop-append_seam bs rest, stop) refl

text_read : (q : ℕ) (bs : List ℕ) (n : ℕ) → text_len q 0 Inside bs ≡ Some n → text_at q bs ≡ Some (Some Text, n + 1)
unfolding text_at
text_read q bs n e = rw e refl

name_read : (bs rest : List ℕ) → list_all in_name bs ≡ true → first_passes (λ b. eqb b 0x60) rest ≡ false → name_at (bs ++ 0x60 ∷ rest) ≡ Some (Some Name, length bs + 2)
unfolding name_at
name_read bs rest h stop = rw (run_exact in_name bs h (0x60 ∷ rest) refl, drop-append_seam bs (0x60 ∷ rest), stop) refl

variable_read : (b : ℕ) (bs rest : List ℕ) → is_letter b ≡ true → list_all is_word_byte bs ≡ true → first_passes is_word_byte rest ≡ false
    → variable_at (0x40 ∷ (b ∷ bs) ++ rest) ≡ Some (Some Variable, length (b ∷ bs) + 2)
unfolding variable_at
variable_read b bs rest letter h stop =
    rw (letter, run_exact is_word_byte bs h rest stop) refl

first_line : (bs rest : List ℕ) → first_passes in_line rest ≡ false → first_passes (λ b. not (is_blank b)) bs ≡ false
    → first_passes (λ b. not (is_blank b)) (bs ++ rest) ≡ false
first_line (b ∷ bs) rest stop h = h
first_line [] [] stop h = refl
first_line [] (b ∷ rest) stop h =
    let newline : b ≡ 0x0A = eqb-true b 0x0A (passes_not (eqb b 0x0A) stop) in
    subst (λ (c : ℕ). not (is_blank c) ≡ false) (sym newline) refl

dashes_read : (bs rest : List ℕ) → list_all in_line bs ≡ true → first_passes in_line rest ≡ false → first_passes (λ b. not (is_blank b)) bs ≡ false
    → dashes_at (0x2D ∷ bs ++ rest) ≡ Some (None, length bs + 2)
unfolding dashes_at
dashes_read bs rest h stop blank = rw (first_line bs rest stop blank, run_exact in_line bs h rest stop) refl

first_before : (p : ℕ → Bool) (c : ℕ) → p c ≡ false → (bs rest : List ℕ) → first_passes p bs ≡ false → first_passes p (bs ++ c ∷ rest) ≡ false
first_before p c other [] rest h = other
first_before p c other (b ∷ bs) rest h = h

remark_read : (bs rest : List ℕ) → first_passes (λ b. eqb b 0x21) bs ≡ false → has_close (bs ++ 0x2A ∷ []) ≡ false
    → remark_at (0x2A ∷ bs ++ 0x2A ∷ 0x2F ∷ rest) ≡ Some (None, length bs + 2 + 2)
unfolding remark_at
remark_read bs rest plain unclosed =
    rw (first_before (λ b. eqb b 0x21) 0x2A refl bs (0x2F ∷ rest) plain, remark_again bs rest unclosed) refl

mark_name : (bs : List ℕ) → piece_at (0x60 ∷ bs) ≡ name_at bs
unfolding piece_at mark_at
mark_name bs = refl

mark_variable : (bs : List ℕ) → piece_at (0x40 ∷ bs) ≡ variable_at bs
unfolding piece_at mark_at
mark_variable bs = refl

mark_hash : (bs : List ℕ) → piece_at (0x23 ∷ bs) ≡ Some (None, suc (run in_line bs))
unfolding piece_at mark_at
mark_hash bs = refl

mark_dashes : (bs : List ℕ) → piece_at (0x2D ∷ bs) ≡ dashes_at bs
unfolding piece_at mark_at
mark_dashes bs = refl

mark_remark : (bs : List ℕ) → piece_at (0x2F ∷ bs) ≡ remark_at bs
unfolding piece_at mark_at
mark_remark bs = refl

minus_read : (rest : List ℕ) → begins_dashes rest ≡ false → dashes_at rest ≡ Some (Some (Sign Minus), 1)
unfolding dashes_at
minus_read [] alone = refl
minus_read (b ∷ rest) alone = rw alone refl

sign_read : (sign : S.Sign) (rest : List ℕ) → may_follow sign rest ≡ true → piece_at (s.sign_text sign ++ rest) ≡ Some (Some (Sign sign), length (s.sign_text sign))
unfolding piece_at mark_at assigns_at
sign_read Equal rest follows = absurd cc
sign_read Assign rest follows = refl
sign_read Comma rest follows = refl
sign_read Dot rest follows = refl
sign_read LeftParenthesis rest follows = refl
sign_read RightParenthesis rest follows = refl
sign_read Semicolon rest follows = refl
sign_read Star rest follows = refl
sign_read Minus rest follows = minus_read rest (fails_not (begins_dashes rest) follows)

sized : (what : Option TokenKind) (m n : ℕ) → m ≡ n → ◌≡◌ {A = Option Front} (Some (what, m)) (Some (what, n))
sized what m n e = ap (λ (k : ℕ). Some (what, k)) e

pub piece_again : {bytes rest : List ℕ} {what : Option TokenKind} → IsPiece bytes rest what → piece_at (bytes ++ rest) ≡ Some (what, length bytes)
piece_again (s.blank {b} {rest} is) = front_blank b rest is
piece_again (s.hash {bytes} {rest} h stop) = mark_hash (bytes ++ rest) ∙ sized None _ _ (ap suc (run_exact in_line bytes h rest stop))
piece_again (s.dashes {bytes} {rest} h stop blank) =
    mark_dashes (0x2D ∷ bytes ++ rest) ∙ dashes_read bytes rest h stop blank ∙ sized None (length bytes + 2) (length (0x2D ∷ 0x2D ∷ bytes)) (omega arith)
piece_again (s.remark bytes {rest} plain unclosed) =
    let parts : (bytes ++ 0x2A ∷ 0x2F ∷ []) ++ rest ≡ bytes ++ 0x2A ∷ 0x2F ∷ rest = append_assoc bytes (0x2A ∷ 0x2F ∷ []) rest in
    let size : length bytes + 2 + 2 ≡ length (0x2F ∷ 0x2A ∷ bytes ++ 0x2A ∷ 0x2F ∷ []) = omega (arith, length-append bytes (0x2A ∷ 0x2F ∷ [])) in
    mark_remark (0x2A ∷ (bytes ++ 0x2A ∷ 0x2F ∷ []) ++ rest) ∙ ap (λ (cs : List ℕ). remark_at (0x2A ∷ cs)) parts ∙ remark_read bytes rest plain unclosed
    ∙ sized None _ _ size
piece_again (s.word {b} {bytes} {rest} letter h stop) = front_word b (bytes ++ rest) letter ∙ word_read b bytes rest letter h stop
piece_again (s.name bytes {rest} h stop) =
    let parts : (bytes ++ 0x60 ∷ []) ++ rest ≡ bytes ++ 0x60 ∷ rest = append_assoc bytes (0x60 ∷ []) rest in
    let size : length bytes + 2 ≡ length (0x60 ∷ bytes ++ 0x60 ∷ []) = omega (arith, length-append bytes (0x60 ∷ [])) in
    mark_name ((bytes ++ 0x60 ∷ []) ++ rest) ∙ ap name_at parts ∙ name_read bytes rest h stop ∙ sized (Some Name) _ _ size
piece_again (s.variable {b} {bytes} {rest} letter h stop) =
    mark_variable (0x40 ∷ b ∷ bytes ++ rest) ∙ variable_read b bytes rest letter h stop
    ∙ sized (Some Variable) (length (b ∷ bytes) + 2) (length (0x40 ∷ 0x40 ∷ b ∷ bytes)) (omega arith)
piece_again (s.number {b} {bytes} {rest} digit h stop) = front_number b (bytes ++ rest) digit ∙ number_read bytes rest h stop
piece_again (s.text {quote} {bytes} {rest} is body stop) =
    let parts : (bytes ++ quote ∷ []) ++ rest ≡ bytes ++ quote ∷ rest = append_assoc bytes (quote ∷ []) rest in
    let size : length bytes + 1 + 1 ≡ length (quote ∷ bytes ++ quote ∷ []) = omega (arith, length-append bytes (quote ∷ [])) in
    front_text quote ((bytes ++ quote ∷ []) ++ rest) is ∙ ap (text_at quote) parts
    ∙ text_read quote (bytes ++ quote ∷ rest) (length bytes + 1) (closes quote (quote_apart quote is) body rest stop) ∙ sized (Some Text) _ _ size
piece_again (s.operator {b} {bytes} {rest} is h stop) = front_operator b (bytes ++ rest) is ∙ operator_read b bytes rest is h stop
piece_again (s.sign {rest} sign follows) = sign_read sign rest follows

-- a piece has a byte
pub some_bytes : {bytes rest : List ℕ} {what : Option TokenKind} → IsPiece bytes rest what → 0 < length bytes
some_bytes (s.blank is) = omega arith
some_bytes (s.hash h stop) = omega arith
some_bytes (s.dashes h stop blank) = omega arith
some_bytes (s.remark bytes plain unclosed) = omega arith
some_bytes (s.word letter h stop) = omega arith
some_bytes (s.name bytes h stop) = omega arith
some_bytes (s.variable letter h stop) = omega arith
some_bytes (s.number digit h stop) = omega arith
some_bytes (s.text is body stop) = omega arith
some_bytes (s.operator is h stop) = omega arith
some_bytes (s.sign Equal follows) = omega arith
some_bytes (s.sign Assign follows) = omega arith
some_bytes (s.sign Comma follows) = omega arith
some_bytes (s.sign Dot follows) = omega arith
some_bytes (s.sign LeftParenthesis follows) = omega arith
some_bytes (s.sign RightParenthesis follows) = omega arith
some_bytes (s.sign Semicolon follows) = omega arith
some_bytes (s.sign Star follows) = omega arith
some_bytes (s.sign Minus follows) = omega arith
