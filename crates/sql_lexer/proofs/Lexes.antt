-- Reading from left to right gives exactly a text's tokens.
use Rattle.std.proofs.Common.{◌≡◌, ℕ, zero, suc, ◌+◌, ◌≤◌, ◌<◌, Bool, true, false, cond, List, [], ◌∷◌, ◌++◌, length, drop, Some, refl, sym, ap, subst, ◌∙◌, arith}
use Rattle.std.proofs.lemmas.List.{length-append, length-drop}
use Rattle.std.proofs.Math.Seq.{drop-append_seam}
use Rattle.sql_lexer.specs.declared.token.Token.{Token}
use Rattle.sql_lexer.specs.Lexemes.{is_blank}
use Rattle.sql_lexer.specs.Tokens.{LexesFrom}
use Rattle.sql_lexer.specs.Tokens as t
use Rattle.sql_lexer.specs.inner.Results.{◌>>=◌}
use Rattle.sql_lexer.specs.inner.Scanning.{Front, token_at, lex_at}
use Rattle.sql_lexer.proofs.Options.{some_is, bind_some}
use Rattle.sql_lexer.proofs.Fronts.{Found, token_sound, token_again, starts}

-- the token that is read at a place
abbrev pub token_of : ℕ → Front → Token
token_of at x = record { kind = x.0; start = at; end = at + x.1 }

pub past_front : (bs : List ℕ) (x : Front) (f : Found bs x) → drop x.1 bs ≡ f.rest
past_front bs x f = rw (f.size) (subst (λ (cs : List ℕ). drop (length f.front) cs ≡ f.rest) (sym f.parts) (drop-append_seam f.front f.rest))

-- a token has a byte, and stands within the text
pub token_within : (bs : List ℕ) (x : Front) → token_at bs ≡ Some x → (0 < x.1) × (x.1 ≤ length bs)
token_within bs x e =
    let f = token_sound bs x e in
    let st = starts f.front x.0 f.spells in
    let size = f.size in
    let some = ap length st.is in
    let all = ap length f.parts in
    (omega (arith, size, some), omega (arith, size, all, length-append f.front f.rest))

pub lex_sound : (n at : ℕ) (bs : List ℕ) (tokens : List Token) → length bs ≤ n → lex_at n at bs ≡ Some tokens → LexesFrom at bs tokens
unfolding lex_at
lex_sound zero at [] tokens le e = subst (LexesFrom at []) (some_is [] tokens e) t.end
lex_sound zero at (b ∷ bs) tokens le e = absurd (omega arith)
lex_sound (suc n) at [] tokens le e = subst (LexesFrom at []) (some_is [] tokens e) t.end
lex_sound (suc n) at (b ∷ bs) tokens le e = go (is_blank b) refl e (lex_sound n)
  where
    go : (blank : Bool) → is_blank b ≡ blank
        → cond blank (lex_at n (at + 1) bs) (token_at (b ∷ bs) >>= λ x. lex_at n (at + x.1) (drop x.1 (b ∷ bs)) >>= λ ts. Some (token_of at x ∷ ts)) ≡ Some tokens
        → ((at : ℕ) (cs : List ℕ) (ts : List Token) → length cs ≤ n → lex_at n at cs ≡ Some ts → LexesFrom at cs ts) → LexesFrom at (b ∷ bs) tokens
    go true is e rec = t.blank is (rec (at + 1) bs tokens (omega arith) e)
    go false is e rec =
        let a = bind_some (token_at (b ∷ bs)) (λ x. lex_at n (at + x.1) (drop x.1 (b ∷ bs)) >>= λ ts. Some (token_of at x ∷ ts)) tokens e in
        let f = token_sound (b ∷ bs) a.0 a.1 in
        let d = bind_some (lex_at n (at + a.0.1) (drop a.0.1 (b ∷ bs))) (λ ts. Some (token_of at a.0 ∷ ts)) tokens a.2 in
        let within = token_within (b ∷ bs) a.0 a.1 in
        let shorter : length (drop a.0.1 (b ∷ bs)) ≤ n = omega (arith, within.0, within.1, length-drop a.0.1 (b ∷ bs)) in
        let later : LexesFrom (at + a.0.1) (drop a.0.1 (b ∷ bs)) d.0 = rec (at + a.0.1) (drop a.0.1 (b ∷ bs)) d.0 shorter d.1 in
        let there : LexesFrom (at + length f.front) f.rest d.0 =
        subst (λ (cs : List ℕ). LexesFrom (at + length f.front) cs d.0) (past_front (b ∷ bs) a.0 f) (subst (λ (m : ℕ). LexesFrom (at + m) (drop a.0.1 (b ∷ bs)) d.0) f.size later) in
        let r : LexesFrom at (f.front ++ f.rest) (record { kind = a.0.0; start = at; end = at + length f.front } ∷ d.0) = t.token f.spells f.ended there in
        let whole : LexesFrom at (b ∷ bs) (token_of at a.0 ∷ d.0) =
        subst (λ (m : ℕ). LexesFrom at (b ∷ bs) (record { kind = a.0.0; start = at; end = at + m } ∷ d.0)) (sym f.size)
        (subst (λ (cs : List ℕ). LexesFrom at cs (record { kind = a.0.0; start = at; end = at + length f.front } ∷ d.0)) (sym f.parts) r) in
        subst (LexesFrom at (b ∷ bs)) (some_is (token_of at a.0 ∷ d.0) tokens d.2) whole

-- the reading goes on after a blank, or after a token
pub at_blank : (n at b : ℕ) (bs : List ℕ) → is_blank b ≡ true → lex_at (suc n) at (b ∷ bs) ≡ lex_at n (at + 1) bs
unfolding lex_at
at_blank n at b bs is = rw is refl

pub at_token : (n at b : ℕ) (bs : List ℕ) → is_blank b ≡ false
    → lex_at (suc n) at (b ∷ bs) ≡ (token_at (b ∷ bs) >>= λ x. lex_at n (at + x.1) (drop x.1 (b ∷ bs)) >>= λ ts. Some (token_of at x ∷ ts))
unfolding lex_at
at_token n at b bs plain = rw plain refl

-- one token, and what is read after it
one_token : (n at b : ℕ) (bs : List ℕ) (x : Front) (tokens : List Token) → is_blank b ≡ false → token_at (b ∷ bs) ≡ Some x
    → lex_at n (at + x.1) (drop x.1 (b ∷ bs)) ≡ Some tokens
    → lex_at (suc n) at (b ∷ bs) ≡ Some (token_of at x ∷ tokens)
one_token n at b bs x tokens plain read rest = at_token n at b bs plain ∙ rw (read, rest) refl

pub lex_again : {at : ℕ} {bs : List ℕ} {tokens : List Token} → LexesFrom at bs tokens → (n : ℕ) → length bs ≤ n → lex_at n at bs ≡ Some tokens
unfolding lex_at
lex_again t.end zero le = refl
lex_again t.end (suc n) le = refl
lex_again (t.blank {at} {b} {rest} {tokens} h r) zero le = absurd (omega arith)
lex_again (t.blank {at} {b} {rest} {tokens} h r) (suc n) le = at_blank n at b rest h ∙ lex_again r n (omega arith)
lex_again (t.token {at} {bytes} {rest} {kind} {tokens} spelled end r) zero le =
    let st = starts bytes kind spelled in
    let some = ap length st.is in
    absurd (omega (arith, some, length-append bytes rest))
lex_again (t.token {at} {bytes} {rest} {kind} {tokens} spelled end r) (suc n) le =
    let st = starts bytes kind spelled in
    let some = ap length st.is in
    let tail : lex_at n (at + length bytes) rest ≡ Some tokens = lex_again r n (omega (arith, some, length-append bytes rest)) in
    let trailing : lex_at n (at + length bytes) (drop (length bytes) (bytes ++ rest)) ≡ Some tokens =
    subst (λ (cs : List ℕ). lex_at n (at + length bytes) cs ≡ Some tokens) (sym (drop-append_seam bytes rest)) tail in
    let whole : bytes ++ rest ≡ st.first ∷ st.others ++ rest = ap (λ (cs : List ℕ). cs ++ rest) st.is in
    let read = token_again bytes kind spelled rest end in
    subst (λ (cs : List ℕ). lex_at (suc n) at cs ≡ Some (record { kind = kind; start = at; end = at + length bytes } ∷ tokens)) (sym whole)
    (one_token n at st.first (st.others ++ rest) (kind, length bytes) tokens st.plain (subst (λ (cs : List ℕ). token_at cs ≡ Some (kind, length bytes)) whole read)
    (subst (λ (cs : List ℕ). lex_at n (at + length bytes) (drop (length bytes) cs) ≡ Some tokens) whole trailing))
