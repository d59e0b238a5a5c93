-- What is read stands at the front: laws of lists, for any item.
use Rattle.std.proofs.Common.{◌≡◌, ℕ, zero, suc, ◌≤◌, Bool, true, false, cond, List, [], ◌∷◌, ◌++◌, length, Some, None, is_some, refl, sym, ap, subst, ◌∙◌, append_assoc, arith}
use Rattle.std.proofs.lemmas.List.{length-append}
use Rattle.sql_lexer.specs.Lexemes.{Lexeme, sign}
use Rattle.sql_lexer.specs.inner.Results.{◌>>=◌}
use Rattle.sql_lexer.specs.declared.token.Sign.TheVariants.{Comma}
use Rattle.sql_lexer.proofs.Options.{some_is, bound}
use Rattle.sql_parser.specs.Grammar.{Lexemes, Follows, Listed}
use Rattle.sql_parser.specs.Grammar as g
use Rattle.sql_parser.specs.inner.Reading.{Read, is_comma, after_at, follows_at, all_follow, listed_at}

-- the front of the tokens spells what was read
pub record Front {A : Type 0} (Reads : Lexemes → A → Type 0) (ts : Lexemes) (x : A × Lexemes) : Type 0 where
  pub front : Lexemes
  pub parts : ts ≡ front ++ x.1
  pub reads : Reads front x.0

pub shrinks : {A : Type 0} (Reads : Lexemes → A → Type 0) (ts : Lexemes) (x : A × Lexemes) → Front Reads ts x → length x.1 ≤ length ts
shrinks Reads ts x f = rw f.parts (omega (arith, length-append f.front x.1))

-- ---- items that follow one another

not_empty : {A : Type 0} (x : A) (xs : List A) (us rest : Lexemes) → ◌≡◌ {A = Read (List A)} (Some (x ∷ xs, us)) (Some ([], rest)) → ⊥
not_empty {A} x xs us rest e = let h : x ∷ xs ≡ [] = ap (λ (p : List A × Lexemes). p.0) (some_is (x ∷ xs, us) ([], rest) e) in cc

pub glue : (ts a us b rest : Lexemes) → ts ≡ a ++ us → us ≡ b ++ rest → ts ≡ (a ++ b) ++ rest
glue ts a us b rest e f = e ∙ ap (λ (vs : Lexemes). a ++ vs) f ∙ sym (append_assoc a b rest)

module _ {A : Type 0} (sep : Lexeme → Bool) (word : Lexeme) (only : (k : Lexeme) → sep k ≡ true → k ≡ word) (item : Lexemes → Read A)
    (Item : Lexemes → A → Type 0)
    (sound : (ts : Lexemes) (x : A × Lexemes) → item ts ≡ Some x → Front Item ts x) where
  pub follows_sound : (n : ℕ) (ts : Lexemes) (x : List A × Lexemes) → follows_at sep item n ts ≡ Some x → Front (Follows word Item) ts x
  unfolding follows_at
  follows_sound zero ts x e = subst (Front (Follows word Item) ts) (some_is ([], ts) x e) (record { front = []; parts = refl; reads = g.end })
  follows_sound (suc n) [] x e = subst (Front (Follows word Item) []) (some_is ([], []) x e) (record { front = []; parts = refl; reads = g.end })
  follows_sound (suc n) (t ∷ ts) x e = go (sep t) refl e (follows_sound n)
    where
      go : (b : Bool) → sep t ≡ b → cond b (item ts >>= λ y. follows_at sep item n y.1 >>= λ ys. Some (y.0 ∷ ys.0, ys.1)) (Some ([], t ∷ ts)) ≡ Some x
          → ((us : Lexemes) (ys : List A × Lexemes) → follows_at sep item n us ≡ Some ys → Front (Follows word Item) us ys) → Front (Follows word Item) (t ∷ ts) x
      go false is e rec = subst (Front (Follows word Item) (t ∷ ts)) (some_is ([], t ∷ ts) x e) (record { front = []; parts = refl; reads = g.end })
      go true is e rec =
          bound _ _ _ e (λ y p e1. bound _ _ _ e1 (λ ys q e2.
          let f = sound ts y p in
          let h = rec y.1 ys q in
          let parts : t ∷ ts ≡ (word ∷ f.front ++ h.front) ++ ys.1 =
          rw (only t is) (ap (λ (us : Lexemes). word ∷ us) (glue ts f.front y.1 h.front ys.1 f.parts h.parts)) in
          subst (Front (Follows word Item) (t ∷ ts)) (some_is _ x e2) (record { front = word ∷ f.front ++ h.front; parts = parts; reads = g.item f.reads h.reads })))

  -- a separator is followed by an item
  follows_some : (n : ℕ) (ts : Lexemes) (rest : Lexemes) → length ts ≤ n → is_some (after_at sep ts) ≡ true → follows_at sep item n ts ≡ Some ([], rest) → ⊥
  unfolding follows_at
  follows_some n [] rest le is e = cc
  follows_some zero (t ∷ ts) rest le is e = absurd (omega arith)
  follows_some (suc n) (t ∷ ts) rest le is e = go (sep t) is e
    where
      go : (b : Bool) → is_some (cond b (Some ts) None) ≡ true
          → ◌≡◌ {A = Read (List A)} (cond b (item ts >>= λ y. follows_at sep item n y.1 >>= λ ys. Some (y.0 ∷ ys.0, ys.1)) (Some ([], t ∷ ts))) (Some ([], rest)) → ⊥
      go false is e = cc
      go true is e =
          bound (item ts) (λ y. follows_at sep item n y.1 >>= λ ys. Some (y.0 ∷ ys.0, ys.1)) ([], rest) e (λ y p e1.
          bound (follows_at sep item n y.1) (λ ys. Some (y.0 ∷ ys.0, ys.1)) ([], rest) e1 (λ ys q e2. not_empty y.0 ys.0 ys.1 rest e2))

  -- what all_follow gives
  pub all_sound : (x : A) (ts : Lexemes) (y : List A × Lexemes) → all_follow sep item (x ∷ []) ts ≡ Some y
      → (xs : List A) × (y.0 ≡ x ∷ xs) × Front (Follows word Item) ts (xs, y.1) × (is_some (after_at sep ts) ≡ true → xs ≡ [] → ⊥)
  all_sound x ts y e =
      bound _ _ _ e (λ xs p e1.
      let same : (x ∷ xs.0, xs.1) ≡ y = some_is _ y e1 in
      let f = follows_sound (length ts) ts xs p in (
        xs.0,
        sym (ap (λ (z : List A × Lexemes). z.0) same),
        subst (λ (r : Lexemes). Front (Follows word Item) ts (xs.0, r)) (ap (λ (z : List A × Lexemes). z.1) same) f,
        λ is nil. follows_some (length ts) ts xs.1 (omega arith) is (subst (λ (zs : List A). follows_at sep item (length ts) ts ≡ Some (zs, xs.1)) nil p),
      ))

pub comma_only : (k : Lexeme) → is_comma k ≡ true → k ≡ sign Comma
comma_only (sign Comma) e = refl
comma_only _ e = absurd cc

-- x,..
module _ {A : Type 0} (item : Lexemes → Read A) (Item : Lexemes → A → Type 0)
    (sound : (ts : Lexemes) (x : A × Lexemes) → item ts ≡ Some x → Front Item ts x) where
  pub listed_sound : (ts : Lexemes) (y : List A × Lexemes) → listed_at item ts ≡ Some y → Front (Listed Item) ts y
  listed_sound ts y e =
      bound _ _ _ e (λ x p e1.
      let f = sound ts x p in
      let s = all_sound is_comma (sign Comma) comma_only item Item sound x.0 x.1 y e1 in
      let h = s.2 in
      let reads : Listed Item (f.front ++ h.front) (x.0 ∷ s.0) = g.items f.reads h.reads in
      record {
        front = f.front ++ h.front;
        parts = glue ts f.front x.1 h.front y.1 f.parts h.parts;
        reads = subst (Listed Item (f.front ++ h.front)) (sym s.1) reads;
      })
