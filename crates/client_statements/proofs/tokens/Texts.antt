-- Texts in quotes: a text is read up to the quote that closes it.
use Rattle.std.proofs.Common.{◌≡◌, ℕ, ◌+◌, Bool, true, false, cond, eqb, inl, inr, List, [], ◌∷◌, ◌++◌, length, Some, None, refl, sym, ap, subst, ◌∙◌, arith}
use Rattle.std.proofs.lemmas.Bool.{eqb-true, ne_eqb, or_cases}
use Rattle.client_statements.specs.declared.tokens.body.TextState.{TextState}
use Rattle.client_statements.specs.declared.tokens.body.TextState.TheVariants.{Inside, AfterQuote, AfterBackslash}
use Rattle.sql_lexer.specs.inner.Scanning.{first_passes}
use Rattle.client_statements.specs.tokens.Pieces.{IsQuoted, is_quote}
use Rattle.client_statements.specs.tokens.Pieces as s
use Rattle.client_statements.specs.tokens.inner.Scanning.{text_len}

same_byte : (b : ℕ) → eqb b b ≡ true
same_byte b = go (eqb b b) refl
  where
    go : (t : Bool) → eqb b b ≡ t → t ≡ true
    go true is = refl
    go false is = grind arith

module _ (q : ℕ) (other : eqb 0x5C q ≡ false) where
  -- the step of a text by each place
  inside_quote : (n : ℕ) (bs : List ℕ) → text_len q n Inside (q ∷ bs) ≡ text_len q (n + 1) AfterQuote bs
  unfolding text_len
  inside_quote n bs = rw (same_byte q, text_len) refl

  inside_backslash : (n b : ℕ) (bs : List ℕ) → text_len q n Inside (0x5C ∷ b ∷ bs) ≡ text_len q (n + 1 + 1) Inside bs
  unfolding text_len
  inside_backslash n b bs = rw (other, text_len) refl

  inside_plain : (n b : ℕ) (bs : List ℕ) → eqb b q ≡ false → eqb b 0x5C ≡ false → text_len q n Inside (b ∷ bs) ≡ text_len q (n + 1) Inside bs
  unfolding text_len
  inside_plain n b bs p r = rw (p, r, text_len) refl

  after_pair : (n : ℕ) (bs : List ℕ) → text_len q n AfterQuote (q ∷ bs) ≡ text_len q (n + 1) Inside bs
  unfolding text_len
  after_pair n bs = rw (same_byte q, text_len) refl

  after_end : (n : ℕ) (rest : List ℕ) → first_passes (λ b. eqb b q) rest ≡ false → text_len q n AfterQuote rest ≡ Some n
  unfolding text_len
  after_end n [] h = refl
  after_end n (b ∷ rest) h = rw (h, text_len) refl

  -- reading goes through what stands between the quotes
  through : {raw : List ℕ} → IsQuoted q raw → (n : ℕ) (bs : List ℕ) → text_len q n Inside (raw ++ bs) ≡ text_len q (n + length raw) Inside bs
  through s.done n bs = ap (λ m. text_len q m Inside bs) (omega arith)
  through (s.plain {b} {bytes} no_quote no_backslash r) n bs =
      inside_plain n b (bytes ++ bs) no_quote no_backslash ∙ through r (n + 1) bs ∙ ap (λ m. text_len q m Inside bs) (omega arith)
  through (s.pair {bytes} r) n bs =
      inside_quote n (q ∷ bytes ++ bs) ∙ after_pair (n + 1) (bytes ++ bs) ∙ through r (n + 1 + 1) bs ∙ ap (λ m. text_len q m Inside bs) (omega arith)
  through (s.escape {b} {bytes} r) n bs =
      inside_backslash n b (bytes ++ bs) ∙ through r (n + 1 + 1) bs ∙ ap (λ m. text_len q m Inside bs) (omega arith)

  pub closes : {raw : List ℕ} → IsQuoted q raw → (rest : List ℕ) → first_passes (λ b. eqb b q) rest ≡ false
      → text_len q 0 Inside (raw ++ q ∷ rest) ≡ Some (length raw + 1)
  closes {raw} r rest h =
      through r 0 (q ∷ rest) ∙ inside_quote (0 + length raw) rest ∙ after_end (0 + length raw + 1) rest h ∙ ap (λ (m : ℕ). Some m) (omega arith)

-- what a place has after it
abbrev before : ℕ → TextState → List ℕ
before q Inside = []
before q AfterQuote = q ∷ []
before q AfterBackslash = 0x5C ∷ []

-- a text whose first quote stands before n bytes, and these ones
pub record Closed (q : ℕ) (bs : List ℕ) (n : ℕ) : Type 0 where
  pub raw : List ℕ
  pub rest : List ℕ
  pub parts : bs ≡ raw ++ q ∷ rest
  pub size : n ≡ length raw + 1
  pub body : IsQuoted q raw
  pub ended : first_passes (λ b. eqb b q) rest ≡ false

-- n bytes were read before what a place has after it
abbrev Reached : ℕ → TextState → List ℕ → ℕ → ℕ → Type 0
Reached q place bs n m = (k : ℕ) × (m ≡ n + k) × Closed q (before q place ++ bs) k

module _ (q : ℕ) where
  -- one byte or two more inside
  one_more : (b n m : ℕ) (bs : List ℕ) → eqb b q ≡ false → eqb b 0x5C ≡ false → Reached q Inside bs (n + 1) m → Reached q Inside (b ∷ bs) n m
  one_more b n m bs no_quote no_backslash r =
      let c = r.2 in (
        r.0 + 1,
        omega (arith, r.1),
        record {
          raw = b ∷ c.raw;
          rest = c.rest;
          parts = ap (λ (cs : List ℕ). b ∷ cs) c.parts;
          size = omega (arith, c.size);
          body = s.plain no_quote no_backslash c.body;
          ended = c.ended;
        },
      )

  pair_more : (n m : ℕ) (bs : List ℕ) → Reached q Inside bs (n + 2) m → Reached q AfterQuote (q ∷ bs) n m
  pair_more n m bs r =
      let c = r.2 in (
        r.0 + 2,
        omega (arith, r.1),
        record {
          raw = q ∷ q ∷ c.raw;
          rest = c.rest;
          parts = ap (λ (cs : List ℕ). q ∷ q ∷ cs) c.parts;
          size = omega (arith, c.size);
          body = s.pair c.body;
          ended = c.ended;
        },
      )

  escape_more : (b n m : ℕ) (bs : List ℕ) → Reached q Inside bs (n + 2) m → Reached q AfterBackslash (b ∷ bs) n m
  escape_more b n m bs r =
      let c = r.2 in (
        r.0 + 2,
        omega (arith, r.1),
        record {
          raw = 0x5C ∷ b ∷ c.raw;
          rest = c.rest;
          parts = ap (λ (cs : List ℕ). 0x5C ∷ b ∷ cs) c.parts;
          size = omega (arith, c.size);
          body = s.escape c.body;
          ended = c.ended;
        },
      )

  recount : (i j : ℕ) (place : TextState) (bs : List ℕ) (m : ℕ) → i ≡ j → text_len q i place bs ≡ Some m → text_len q j place bs ≡ Some m
  recount i j place bs m e r = subst (λ (x : ℕ). text_len q x place bs ≡ Some m) e r

  text_sound : (bs : List ℕ) (n : ℕ) (place : TextState) (m : ℕ) → text_len q (n + length (before q place)) place bs ≡ Some m → Reached q place bs n m
  unfolding text_len
  text_sound [] n Inside m e = absurd cc
  text_sound [] n AfterQuote m e = let is : n + 1 ≡ m = cc in (1, sym is, record { raw = []; rest = []; parts = refl; size = refl; body = s.done; ended = refl })
  text_sound [] n AfterBackslash m e = absurd cc
  text_sound (b ∷ bs) n Inside m e = go (eqb b q) refl (eqb b 0x5C) refl e (text_sound bs)
    where
      go : (t : Bool) → eqb b q ≡ t → (l : Bool) → eqb b 0x5C ≡ l
          → (elim (cond t (Some AfterQuote) (cond l (Some AfterBackslash) (Some Inside))) [ Some next ↦ text_len q (n + 0 + 1) next bs | None ↦ Some (n + 0) ]) ≡ Some m
          → ((n : ℕ) (place : TextState) (m : ℕ) → text_len q (n + length (before q place)) place bs ≡ Some m → Reached q place bs n m)
          → Reached q Inside (b ∷ bs) n m
      go true is l _ e rec = subst (λ (x : ℕ). Reached q Inside (x ∷ bs) n m) (sym (eqb-true b q is))
          (rec n AfterQuote m (recount (n + 0 + 1) (n + 1) AfterQuote bs m (omega arith) e))
      go false _ true is e rec = subst (λ (x : ℕ). Reached q Inside (x ∷ bs) n m) (sym (eqb-true b 0x5C is))
          (rec n AfterBackslash m (recount (n + 0 + 1) (n + 1) AfterBackslash bs m (omega arith) e))
      go false no_quote false no_backslash e rec =
          one_more b n m bs no_quote no_backslash (rec (n + 1) Inside m (recount (n + 0 + 1) (n + 1 + 0) Inside bs m (omega arith) e))
  text_sound (b ∷ bs) n AfterQuote m e = go (eqb b q) refl e (text_sound bs)
    where
      go : (t : Bool) → eqb b q ≡ t → (elim (cond t (Some Inside) None) [ Some next ↦ text_len q (n + 1 + 1) next bs | None ↦ Some (n + 1) ]) ≡ Some m
          → ((n : ℕ) (place : TextState) (m : ℕ) → text_len q (n + length (before q place)) place bs ≡ Some m → Reached q place bs n m)
          → Reached q AfterQuote (b ∷ bs) n m
      go true is e rec = subst (λ (x : ℕ). Reached q AfterQuote (x ∷ bs) n m) (sym (eqb-true b q is))
          (pair_more n m bs (rec (n + 2) Inside m (recount (n + 1 + 1) (n + 2 + 0) Inside bs m (omega arith) e)))
      go false is e rec = let same : n + 1 ≡ m = cc in (
        1,
        sym same,
        record {
          raw = [];
          rest = b ∷ bs;
          parts = refl;
          size = refl;
          body = s.done;
          ended = is;
        },
      )
  text_sound (b ∷ bs) n AfterBackslash m e = escape_more b n m bs (text_sound bs (n + 2) Inside m (recount (n + 1 + 1) (n + 2 + 0) Inside bs m (omega arith) e))

  -- what is read after a first quote
  pub text_closed : (bs : List ℕ) (n : ℕ) → text_len q 0 Inside bs ≡ Some n → Closed q bs n
  text_closed bs n e =
      let r = text_sound bs 0 Inside n (recount 0 (0 + 0) Inside bs n (omega arith) e) in
      let same : r.0 ≡ n = omega (arith, r.1) in
      subst (Closed q bs) same r.2

-- a quote is no backslash
pub quote_apart : (q : ℕ) → is_quote q ≡ true → eqb 0x5C q ≡ false
quote_apart q h = elim (or_cases (eqb q 0x27) (eqb q 0x22) h) [
  | inl x ↦ let e = eqb-true q 0x27 x in ne_eqb 0x5C q (λ f. omega arith)
  | inr x ↦ let e = eqb-true q 0x22 x in ne_eqb 0x5C q (λ f. omega arith)
]
