-- Texts in single quotes: a text is read up to the quote that closes it.
use Rattle.std.proofs.Common.{◌≡◌, ℕ, ◌+◌, ◌≤◌, Bool, true, false, cond, eqb, not, List, [], ◌∷◌, ◌++◌, length, Some, None, refl, sym, ap, subst, ◌∙◌, arith}
use Rattle.std.proofs.lemmas.Bool.{eqb-true}
use Rattle.sql_lexer.specs.declared.body.TextState.{TextState}
use Rattle.sql_lexer.specs.declared.body.TextState.TheVariants.{Inside, AfterQuote, AfterBackslash}
use Rattle.sql_lexer.specs.declared.token.TokenKind.TheVariants.{Text}
use Rattle.sql_lexer.specs.Lexemes.{IsBody, ends_token}
use Rattle.sql_lexer.specs.Lexemes as s
use Rattle.sql_lexer.specs.inner.Scanning.{text_len}

-- the step of a text by each place
inside_quote : (n : ℕ) (bs : List ℕ) → text_len n Inside (0x27 ∷ bs) ≡ text_len (n + 1) AfterQuote bs
unfolding text_len
inside_quote n bs = refl

inside_backslash : (n b : ℕ) (bs : List ℕ) → text_len n Inside (0x5C ∷ b ∷ bs) ≡ text_len (n + 1 + 1) Inside bs
unfolding text_len
inside_backslash n b bs = refl

inside_plain : (n b : ℕ) (bs : List ℕ) → eqb b 0x27 ≡ false → eqb b 0x5C ≡ false → text_len n Inside (b ∷ bs) ≡ text_len (n + 1) Inside bs
unfolding text_len
inside_plain n b bs p q = go (eqb b 0x27) p (eqb b 0x5C) q
  where
    go : (x : Bool) → x ≡ false → (y : Bool) → y ≡ false
        → (elim (cond x (Some AfterQuote) (cond y (Some AfterBackslash) (Some Inside))) [ Some next ↦ text_len (n + 1) next bs | None ↦ Some n ])
        ≡ text_len (n + 1) Inside bs
    go true p y q = absurd cc
    go false p true q = absurd cc
    go false p false q = refl

after_pair : (n : ℕ) (bs : List ℕ) → text_len n AfterQuote (0x27 ∷ bs) ≡ text_len (n + 1) Inside bs
unfolding text_len
after_pair n bs = refl

after_end : (n : ℕ) (rest : List ℕ) → ends_token Text rest ≡ true → text_len n AfterQuote rest ≡ Some n
unfolding text_len
after_end n [] h = refl
after_end n (b ∷ rest) h = go (eqb b 0x27) h
  where
    go : (q : Bool) → not q ≡ true → (elim (cond q (Some Inside) None) [ Some next ↦ text_len (n + 1) next rest | None ↦ Some n ]) ≡ Some n
    go true h = absurd cc
    go false h = refl

-- reading goes through what stands between the quotes
pub through : {raw : List ℕ} → IsBody raw → (n : ℕ) (bs : List ℕ) → text_len n Inside (raw ++ bs) ≡ text_len (n + length raw) Inside bs
through s.done n bs = ap (λ m. text_len m Inside bs) (omega arith)
through (s.plain {b} {bytes} no_quote no_backslash r) n bs =
    inside_plain n b (bytes ++ bs) no_quote no_backslash ∙ through r (n + 1) bs ∙ ap (λ m. text_len m Inside bs) (omega arith)
through (s.quotes {bytes} r) n bs =
    inside_quote n (0x27 ∷ bytes ++ bs) ∙ after_pair (n + 1) (bytes ++ bs) ∙ through r (n + 1 + 1) bs ∙ ap (λ m. text_len m Inside bs) (omega arith)
through (s.escape {b} {bytes} r) n bs =
    inside_backslash n b (bytes ++ bs) ∙ through r (n + 1 + 1) bs ∙ ap (λ m. text_len m Inside bs) (omega arith)

pub closes : {raw : List ℕ} → IsBody raw → (rest : List ℕ) → ends_token Text rest ≡ true → text_len 0 Inside (raw ++ 0x27 ∷ rest) ≡ Some (length raw + 1)
closes {raw} r rest h =
    through r 0 (0x27 ∷ rest) ∙ inside_quote (0 + length raw) rest ∙ after_end (0 + length raw + 1) rest h ∙ ap (λ (m : ℕ). Some m) (omega arith)

-- what a place has after it
abbrev before : TextState → List ℕ
before Inside = []
before AfterQuote = 0x27 ∷ []
before AfterBackslash = 0x5C ∷ []

-- a text whose first quote stands before n bytes, and these ones
pub record Closed (bs : List ℕ) (n : ℕ) : Type 0 where
  pub raw : List ℕ
  pub rest : List ℕ
  pub parts : bs ≡ raw ++ 0x27 ∷ rest
  pub size : n ≡ length raw + 1
  pub body : IsBody raw
  pub ended : ends_token Text rest ≡ true

-- n bytes were read before what a place has after it
abbrev Reached : TextState → List ℕ → ℕ → ℕ → Type 0
Reached place bs n m = (k : ℕ) × (m ≡ n + k) × Closed (before place ++ bs) k

-- one byte or two more inside
one_more : (b n m : ℕ) (bs : List ℕ) → eqb b 0x27 ≡ false → eqb b 0x5C ≡ false → Reached Inside bs (n + 1) m → Reached Inside (b ∷ bs) n m
one_more b n m bs no_quote no_backslash r =
    let c = r.2 in (
      r.0 + 1,
      omega (arith, r.1),
      record {
        raw = b ∷ c.raw;
        rest = c.rest;
        parts = ap (λ (cs : List ℕ). b ∷ cs) c.parts;
        size = omega (arith, c.size);
        body = s.plain no_quote no_backslash c.body;
        ended = c.ended;
      },
    )

pair_more : (n m : ℕ) (bs : List ℕ) → Reached Inside bs (n + 2) m → Reached AfterQuote (0x27 ∷ bs) n m
pair_more n m bs r =
    let c = r.2 in (
      r.0 + 2,
      omega (arith, r.1),
      record {
        raw = 0x27 ∷ 0x27 ∷ c.raw;
        rest = c.rest;
        parts = ap (λ (cs : List ℕ). 0x27 ∷ 0x27 ∷ cs) c.parts;
        size = omega (arith, c.size);
        body = s.quotes c.body;
        ended = c.ended;
      },
    )

escape_more : (b n m : ℕ) (bs : List ℕ) → Reached Inside bs (n + 2) m → Reached AfterBackslash (b ∷ bs) n m
escape_more b n m bs r =
    let c = r.2 in (
      r.0 + 2,
      omega (arith, r.1),
      record {
        raw = 0x5C ∷ b ∷ c.raw;
        rest = c.rest;
        parts = ap (λ (cs : List ℕ). 0x5C ∷ b ∷ cs) c.parts;
        size = omega (arith, c.size);
        body = s.escape c.body;
        ended = c.ended;
      },
    )

recount : (i j : ℕ) (place : TextState) (bs : List ℕ) (m : ℕ) → i ≡ j → text_len i place bs ≡ Some m → text_len j place bs ≡ Some m
recount i j place bs m e r = subst (λ (x : ℕ). text_len x place bs ≡ Some m) e r

pub text_sound : (bs : List ℕ) (n : ℕ) (place : TextState) (m : ℕ) → text_len (n + length (before place)) place bs ≡ Some m → Reached place bs n m
unfolding text_len
text_sound [] n Inside m e = absurd cc
text_sound [] n AfterQuote m e = let is : n + 1 ≡ m = cc in (1, sym is, record { raw = []; rest = []; parts = refl; size = refl; body = s.done; ended = refl })
text_sound [] n AfterBackslash m e = absurd cc
text_sound (b ∷ bs) n Inside m e = go (eqb b 0x27) refl (eqb b 0x5C) refl e (text_sound bs)
  where
    go : (q : Bool) → eqb b 0x27 ≡ q → (l : Bool) → eqb b 0x5C ≡ l
        → (elim (cond q (Some AfterQuote) (cond l (Some AfterBackslash) (Some Inside))) [ Some next ↦ text_len (n + 0 + 1) next bs | None ↦ Some (n + 0) ]) ≡ Some m
        → ((n : ℕ) (place : TextState) (m : ℕ) → text_len (n + length (before place)) place bs ≡ Some m → Reached place bs n m)
        → Reached Inside (b ∷ bs) n m
    go true is l _ e rec = subst (λ (x : ℕ). Reached Inside (x ∷ bs) n m) (sym (eqb-true b 0x27 is))
        (rec n AfterQuote m (recount (n + 0 + 1) (n + 1) AfterQuote bs m (omega arith) e))
    go false _ true is e rec = subst (λ (x : ℕ). Reached Inside (x ∷ bs) n m) (sym (eqb-true b 0x5C is))
        (rec n AfterBackslash m (recount (n + 0 + 1) (n + 1) AfterBackslash bs m (omega arith) e))
    go false no_quote false no_backslash e rec =
        one_more b n m bs no_quote no_backslash (rec (n + 1) Inside m (recount (n + 0 + 1) (n + 1 + 0) Inside bs m (omega arith) e))
text_sound (b ∷ bs) n AfterQuote m e = go (eqb b 0x27) refl e (text_sound bs)
  where
    go : (q : Bool) → eqb b 0x27 ≡ q → (elim (cond q (Some Inside) None) [ Some next ↦ text_len (n + 1 + 1) next bs | None ↦ Some (n + 1) ]) ≡ Some m
        → ((n : ℕ) (place : TextState) (m : ℕ) → text_len (n + length (before place)) place bs ≡ Some m → Reached place bs n m)
        → Reached AfterQuote (b ∷ bs) n m
    go true is e rec = subst (λ (x : ℕ). Reached AfterQuote (x ∷ bs) n m) (sym (eqb-true b 0x27 is))
        (pair_more n m bs (rec (n + 2) Inside m (recount (n + 1 + 1) (n + 2 + 0) Inside bs m (omega arith) e)))
    go false is e rec = let same : n + 1 ≡ m = cc in (
      1,
      sym same,
      record {
        raw = [];
        rest = b ∷ bs;
        parts = refl;
        size = refl;
        body = s.done;
        ended = rw is refl;
      },
    )
text_sound (b ∷ bs) n AfterBackslash m e = escape_more b n m bs (text_sound bs (n + 2) Inside m (recount (n + 1 + 1) (n + 2 + 0) Inside bs m (omega arith) e))

-- what is read after a first quote
pub text_closed : (bs : List ℕ) (n : ℕ) → text_len 0 Inside bs ≡ Some n → Closed bs n
text_closed bs n e =
    let r = text_sound bs 0 Inside n (recount 0 (0 + 0) Inside bs n (omega arith) e) in
    let same : r.0 ≡ n = omega (arith, r.1) in
    subst (Closed bs) same r.2

-- a text is at least as long as one that closes there
pub text_at_least : {raw : List ℕ} → IsBody raw → (back : List ℕ) (m : ℕ) → text_len 0 Inside (raw ++ 0x27 ∷ back) ≡ Some m → length raw + 1 ≤ m
text_at_least {raw} r back m e =
    let at_quote : text_len (0 + length raw + 1) AfterQuote back ≡ Some m = sym (through r 0 (0x27 ∷ back) ∙ inside_quote (0 + length raw) back) ∙ e in
    let far = text_sound back (length raw) AfterQuote m (recount (0 + length raw + 1) (length raw + 1) AfterQuote back m (omega arith) at_quote) in
    let size = far.2.size in
    omega (arith, far.1, size)
