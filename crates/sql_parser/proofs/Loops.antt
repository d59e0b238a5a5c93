-- A loop over items that follow one another, against the reading of all of them.
use Rattle.std.proofs.Common.{◌≡◌, ℕ, zero, suc, ◌≤◌, ◌<◌, Bool, List, [], ◌∷◌, ◌++◌, length, Some, None, refl, sym, ap, ◌∙◌, append_assoc, arith}
use Rattle.std.proofs.lemmas.List.{append-nil}
use Rattle.vt_value.specs.declared.refusal.Refusal.{Refusal}
use Rattle.vt_value.specs.declared.refusal.Refusal.TheVariants as R
use Rattle.sql_lexer.specs.Lexemes.{Lexeme}
use Rattle.sql_lexer.specs.inner.Results.{◌>>=◌, Fails}
use Rattle.sql_lexer.proofs.Options.{guard_some, guard_none}
use Rattle.sql_parser.specs.Grammar.{Lexemes}
use Rattle.sql_parser.specs.inner.Reading.{Read, after_at, follows_at, with_front, all_follow, listed_at, is_comma}

-- what was read, with what is read from here on, is all
pub record StillReads {A : Type 0} (sep : Lexeme → Bool) (item : Lexemes → Read A) (front : List A) (rest : Lexemes) (total : Read (List A)) : Type 0 where
  pub fuel : ℕ
  pub enough : length rest ≤ fuel
  pub so_far : with_front front (follows_at sep item fuel rest) ≡ total

pub begins : {A : Type 0} (sep : Lexeme → Bool) (item : Lexemes → Read A) (front : List A) (ts : Lexemes)
    → StillReads sep item front ts (all_follow sep item front ts)
begins sep item front ts = record { fuel = length ts; enough = omega arith; so_far = refl }

regroup : {A : Type 0} (front : List A) (x : A) (read : Read (List A))
    → with_front front (read >>= λ xs. Some (x ∷ xs.0, xs.1)) ≡ with_front (front ++ x ∷ []) read
regroup front x (Some xs) = ap (λ ys. Some (ys, xs.1)) (simp append_assoc)
regroup front x None = refl

pub after_shorter : (sep : Lexeme → Bool) (ts after : Lexemes) → after_at sep ts ≡ Some after → length after < length ts
after_shorter sep [] after is = absurd cc
after_shorter sep (t ∷ ts) after is = let e : ts ≡ after = (guard_some (sep t) ts after is).1 in omega (arith, ap length e)

module _ {A : Type 0} (sep : Lexeme → Bool) (item : Lexemes → Read A) (front : List A) (total : Read (List A)) where
  step : (t : Lexeme) (ts after : Lexemes) (n : ℕ) → after_at sep (t ∷ ts) ≡ Some after
      → follows_at sep item (suc n) (t ∷ ts) ≡ (item after >>= λ x. follows_at sep item n x.1 >>= λ xs. Some (x.0 ∷ xs.0, xs.1))
  unfolding follows_at
  step t ts after n is =
      let g = guard_some (sep t) ts after is in
      rw (g.0, g.1) refl

  pub goes_on : (ts after : Lexemes) (x : A) (rest : Lexemes) → after_at sep ts ≡ Some after → item after ≡ Some (x, rest) → length rest ≤ length after
      → StillReads sep item front ts total → StillReads sep item (front ++ x ∷ []) rest total
  goes_on ts after x rest is reads shorter s = go ts is s.fuel s.enough s.so_far
    where
      go : (ts : Lexemes) → after_at sep ts ≡ Some after → (n : ℕ) → length ts ≤ n → with_front front (follows_at sep item n ts) ≡ total
          → StillReads sep item (front ++ x ∷ []) rest total
      go [] is n le e = absurd cc
      go (t ∷ ts) is zero le e = absurd (omega arith)
      go (t ∷ ts) is (suc n) le e =
          let one : with_front front (follows_at sep item (suc n) (t ∷ ts)) ≡ with_front (front ++ x ∷ []) (follows_at sep item n rest) =
          rw (step t ts after n is, reads) (regroup front x (follows_at sep item n rest)) in
          record { fuel = n; enough = omega (arith, after_shorter sep (t ∷ ts) after is); so_far = sym one ∙ e }

  pub fails : (e : Refusal) (ts after : Lexemes) → after_at sep ts ≡ Some after → Fails e (item after) → StillReads sep item front ts total → Fails e total
  fails R.OutOfMemory ts after is f s = tt
  fails R.SyntaxError ts after is f s = go ts is s.fuel s.enough s.so_far
    where
      go : (ts : Lexemes) → after_at sep ts ≡ Some after → (n : ℕ) → length ts ≤ n → with_front front (follows_at sep item n ts) ≡ total → total ≡ None
      go [] is n le e = absurd cc
      go (t ∷ ts) is zero le e = absurd (omega arith)
      go (t ∷ ts) is (suc n) le e =
          let one : with_front front (follows_at sep item (suc n) (t ∷ ts)) ≡ None = rw (step t ts after n is, f) refl in
          sym e ∙ one
  fails _ ts after is f s = f

  pub is_done : (ts : Lexemes) → after_at sep ts ≡ None → StillReads sep item front ts total → total ≡ Some (front, ts)
  unfolding follows_at
  is_done ts not s = sym s.so_far ∙ go s.fuel ts not
    where
      go : (n : ℕ) (ts : Lexemes) → after_at sep ts ≡ None → with_front front (follows_at sep item n ts) ≡ Some (front, ts)
      go zero ts not = ap (λ xs. Some (xs, ts)) (append-nil front)
      go (suc n) [] not = ap (λ (xs : List A). Some (xs, [])) (append-nil front)
      go (suc n) (t ∷ ts) not = rw (guard_none (sep t) ts not) (ap (λ (xs : List A). Some (xs, t ∷ ts)) (append-nil front))

-- a list from its first item on
pub listed_from : {A : Type 0} (item : Lexemes → Read A) (ts : Lexemes) (x : A) (rest : Lexemes) (front : List A) → item ts ≡ Some (x, rest) → front ≡ x ∷ []
    → listed_at item ts ≡ all_follow is_comma item front rest
listed_from item ts x rest front first one = rw (first, one) refl
