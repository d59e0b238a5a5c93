-- A token that may end before what follows it is as long as possible.
use Rattle.std.proofs.Common.{◌≡◌, ℕ, ◌+◌, ◌≤◌, true, List, [], ◌∷◌, ◌++◌, length, take, Some, refl, sym, ap, ◌∙◌, append_assoc, arith}
use Rattle.std.specs.List.{list_all}
use Rattle.std.proofs.lemmas.List.{length-append}
use Rattle.vt_value.specs.declared.value.Comparison.TheVariants.{Eq, Ne, Lt, Le, Gt, Ge}
use Rattle.sql_lexer.specs.declared.body.TextState.TheVariants.{Inside}
use Rattle.sql_lexer.specs.declared.token.TokenKind.{TokenKind}
use Rattle.sql_lexer.specs.declared.token.TokenKind.TheVariants.{Quoted, Number, Text, Sign, Operator}
use Rattle.sql_lexer.specs.Lexemes.{is_letter, is_digit, is_word_byte, is_word, max_word, IsBody, Spells, ends_token}
use Rattle.sql_lexer.specs.Lexemes as s
use Rattle.sql_lexer.specs.inner.Scanning.{Front, run, word_kind, keyword_at, word_at, digits_at, text_len, string_at, token_at}
use Rattle.sql_lexer.proofs.Keywords.{keyword_is_word}
use Rattle.sql_lexer.proofs.Runs.{run_at_least}
use Rattle.sql_lexer.proofs.Texts.{text_at_least}
use Rattle.sql_lexer.proofs.Options.{some_is, bind_some, guard_some, unless_some}
use Rattle.sql_lexer.proofs.Fronts.{word_parts, front_word, front_number, front_text, token_again, starts, ends_sign, ends_quoted, ends_closed}

word_long : (front back : List ℕ) (x : Front) → is_word front ≡ true → token_at (front ++ back) ≡ Some x → length front ≤ x.1
unfolding word_at
word_long front back x h e =
    let w = word_parts front h in
    let whole : token_at (front ++ back) ≡ word_at (front ++ back) = rw w.is (front_word w.first (w.others ++ back) w.letter) in
    let g = guard_some _ (word_kind (keyword_at (take (run is_word_byte (front ++ back)) (front ++ back))), run is_word_byte (front ++ back)) x (sym whole ∙ e) in
    omega (arith, run_at_least is_word_byte front w.passes back, ap (λ (y : Front). y.1) g.1)

number_long : (b : ℕ) (bs back : List ℕ) (x : Front) → is_digit b ≡ true → list_all is_digit bs ≡ true → token_at ((b ∷ bs) ++ back) ≡ Some x
    → length (b ∷ bs) ≤ x.1
unfolding digits_at
number_long b bs back x h hs e =
    let passes : list_all is_digit (b ∷ bs) ≡ true = rw (h, hs) refl in
    let g = unless_some _ (Number, run is_digit ((b ∷ bs) ++ back)) x (sym (front_number b (bs ++ back) h) ∙ e) in
    omega (arith, run_at_least is_digit (b ∷ bs) passes back, ap (λ (y : Front). y.1) g.1)

text_long : {raw : List ℕ} → IsBody raw → (back : List ℕ) (x : Front) → token_at ((0x27 ∷ raw ++ 0x27 ∷ []) ++ back) ≡ Some x
    → length (0x27 ∷ raw ++ 0x27 ∷ []) ≤ x.1
unfolding string_at
text_long {raw} r back x e =
    let parts : (raw ++ 0x27 ∷ []) ++ back ≡ raw ++ 0x27 ∷ back = append_assoc raw (0x27 ∷ []) back in
    let read : string_at (raw ++ 0x27 ∷ back) ≡ Some x = ap string_at (sym parts) ∙ sym (front_text ((raw ++ 0x27 ∷ []) ++ back)) ∙ e in
    let a = bind_some (text_len 0 Inside (raw ++ 0x27 ∷ back)) (λ n. Some (Text, n + 1)) x read in
    let n = text_at_least r back a.0 a.1 in
    omega (arith, n, length-append raw (0x27 ∷ []), ap (λ (y : Front). y.1) (some_is (Text, a.0 + 1) x a.2))

some_bytes : (bytes : List ℕ) (kind : TokenKind) → Spells bytes kind → 1 ≤ length bytes
some_bytes bytes kind r = let st = starts bytes kind r in omega (arith, ap length st.is)

module _ (n : ℕ) (some : 1 ≤ n) (kind : TokenKind) where
  -- a token whose end nothing changes is what is read
  exact : (front back : List ℕ) (other : TokenKind) → Spells front other → ends_token other back ≡ true → token_at (front ++ back) ≡ Some (kind, n) → length front ≤ n
  exact front back other r end e = omega (arith, ap (λ (y : Front). y.1) (some_is (other, length front) (kind, n) (sym (token_again front other r back end) ∙ e)))

  at_least : (front back : List ℕ) (other : TokenKind) → Spells front other → token_at (front ++ back) ≡ Some (kind, n) → length front ≤ n
  at_least _ back _ (s.keyword_word {bytes} k h) e = word_long bytes back (kind, n) (keyword_is_word bytes k h) e
  at_least _ back _ (s.word {bytes} h other) e = word_long bytes back (kind, n) h e
  at_least _ back _ (s.quoted bytes h) e = exact _ back Quoted (s.quoted bytes h) (ends_quoted back) e
  at_least _ back _ (s.digits {b} {bytes} h hs) e = number_long b bytes back (kind, n) h hs e
  at_least _ back _ (s.string {bytes} r) e = text_long r back (kind, n) e
  at_least _ back _ (s.mark sign) e = exact _ back (Sign sign) (s.mark sign) (ends_sign sign back) e
  at_least _ back _ (s.comparison Eq) e = exact _ back (Operator Eq) (s.comparison Eq) (ends_closed Eq (λ b. refl) back) e
  at_least _ back _ (s.comparison Ne) e = exact _ back (Operator Ne) (s.comparison Ne) (ends_closed Ne (λ b. refl) back) e
  at_least _ back _ (s.comparison Lt) e = some
  at_least _ back _ (s.comparison Le) e = exact _ back (Operator Le) (s.comparison Le) (ends_closed Le (λ b. refl) back) e
  at_least _ back _ (s.comparison Gt) e = some
  at_least _ back _ (s.comparison Ge) e = exact _ back (Operator Ge) (s.comparison Ge) (ends_closed Ge (λ b. refl) back) e
  at_least _ back _ s.bang e = exact _ back (Operator Ne) s.bang (ends_closed Ne (λ b. refl) back) e

pub longest : (bytes rest front back : List ℕ) (kind other : TokenKind) → Spells bytes kind → ends_token kind rest ≡ true → bytes ++ rest ≡ front ++ back
    → Spells front other → length front ≤ length bytes
longest bytes rest front back kind other p end same q =
    at_least (length bytes) (some_bytes bytes kind p) kind front back other q (ap token_at (sym same) ∙ token_again bytes kind p rest end)
