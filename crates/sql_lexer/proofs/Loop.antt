-- The loop over a text, against the reading of all of it.
use Rattle.std.proofs.Common.{◌≡◌, ℕ, zero, suc, ◌+◌, ◌≤◌, ◌<◌, true, false, List, [], ◌∷◌, ◌++◌, length, drop, Option, Some, None, refl, sym, ap, ◌∙◌, append_assoc, arith}
use Rattle.std.proofs.lemmas.List.{append-nil, length-append, length-drop}
use Rattle.sql_lexer.specs.declared.token.Token.{Token}
use Rattle.sql_lexer.specs.Lexemes.{is_blank}
use Rattle.sql_lexer.specs.inner.Results.{◌>>=◌}
use Rattle.sql_lexer.specs.inner.Scanning.{Front, first_passes, token_at, lex_at}
use Rattle.sql_lexer.proofs.Options.{some_is}
use Rattle.sql_lexer.proofs.Lexes.{token_of, token_within, at_blank, at_token}

abbrev pub with_front : List Token → Option (List Token) → Option (List Token)
with_front front read = read >>= λ ts. Some (front ++ ts)

-- what was read, with what is read from here on, is all
pub record StillReads (front : List Token) (at : ℕ) (rest : List ℕ) (total : Option (List Token)) : Type 0 where
  pub fuel : ℕ
  pub enough : length rest ≤ fuel
  pub so_far : with_front front (lex_at fuel at rest) ≡ total

pub starts_reading : (text : List ℕ) → StillReads [] 0 text (lex_at (length text) 0 text)
starts_reading text = record { fuel = length text; enough = omega arith; so_far = go (lex_at (length text) 0 text) }
  where
    go : (r : Option (List Token)) → with_front [] r ≡ r
    go None = refl
    go (Some ts) = refl

regroup : (front : List Token) (x : Token) (r : Option (List Token)) → with_front front (r >>= λ ts. Some (x ∷ ts)) ≡ with_front (front ++ x ∷ []) r
regroup front x (Some ts) = ap (λ (us : List Token). Some us) (simp append_assoc)
regroup front x None = refl

module _ (front : List Token) (total : Option (List Token)) where
  pub skips : (at : ℕ) (rest : List ℕ) → first_passes is_blank rest ≡ true → StillReads front at rest total → StillReads front (at + 1) (drop 1 rest) total
  skips at rest is s = go rest is s.fuel s.enough s.so_far
    where
      go : (bs : List ℕ) → first_passes is_blank bs ≡ true → (n : ℕ) → length bs ≤ n → with_front front (lex_at n at bs) ≡ total
          → StillReads front (at + 1) (drop 1 bs) total
      go [] is n le e = absurd cc
      go (b ∷ bs) is zero le e = absurd (omega arith)
      go (b ∷ bs) is (suc n) le e = record { fuel = n; enough = omega arith; so_far = ap (with_front front) (sym (at_blank n at b bs is)) ∙ e }

  pub goes_on : (at : ℕ) (rest : List ℕ) (x : Front) → first_passes is_blank rest ≡ false → token_at rest ≡ Some x → StillReads front at rest total
      → StillReads (front ++ token_of at x ∷ []) (at + x.1) (drop x.1 rest) total
  goes_on at rest x plain read s = go rest plain read s.fuel s.enough s.so_far
    where
      go : (bs : List ℕ) → first_passes is_blank bs ≡ false → token_at bs ≡ Some x → (n : ℕ) → length bs ≤ n → with_front front (lex_at n at bs) ≡ total
          → StillReads (front ++ token_of at x ∷ []) (at + x.1) (drop x.1 bs) total
      go [] plain read n le e = let within = token_within [] x read in absurd (omega (arith, within.0, within.1))
      go (b ∷ bs) plain read zero le e = absurd (omega arith)
      go (b ∷ bs) plain read (suc n) le e =
          let within = token_within (b ∷ bs) x read in
          let one : lex_at (suc n) at (b ∷ bs) ≡ (lex_at n (at + x.1) (drop x.1 (b ∷ bs)) >>= λ ts. Some (token_of at x ∷ ts)) =
          at_token n at b bs plain ∙ rw read refl in
          record {
            fuel = n;
            enough = omega (arith, within.0, within.1, length-drop x.1 (b ∷ bs));
            so_far = sym (regroup front (token_of at x) (lex_at n (at + x.1) (drop x.1 (b ∷ bs)))) ∙ ap (with_front front) (sym one) ∙ e;
          }

  pub no_token : (at : ℕ) (rest : List ℕ) → 0 < length rest → first_passes is_blank rest ≡ false → token_at rest ≡ None → StillReads front at rest total
      → total ≡ None
  no_token at rest some plain read s = go rest some plain read s.fuel s.enough s.so_far
    where
      go : (bs : List ℕ) → 0 < length bs → first_passes is_blank bs ≡ false → token_at bs ≡ None → (n : ℕ) → length bs ≤ n
          → with_front front (lex_at n at bs) ≡ total → total ≡ None
      go [] some plain read n le e = absurd (omega arith)
      go (b ∷ bs) some plain read zero le e = absurd (omega arith)
      go (b ∷ bs) some plain read (suc n) le e =
          let one : lex_at (suc n) at (b ∷ bs) ≡ None = at_token n at b bs plain ∙ rw read refl in sym e ∙ ap (with_front front) one

  pub is_done : (at : ℕ) (rest : List ℕ) → length rest ≡ 0 → StillReads front at rest total → total ≡ Some front
  unfolding lex_at
  is_done at rest empty s = go rest empty s.fuel s.so_far
    where
      go : (bs : List ℕ) → length bs ≡ 0 → (n : ℕ) → with_front front (lex_at n at bs) ≡ total → total ≡ Some front
      go [] empty zero e = sym e ∙ ap (λ (ts : List Token). Some ts) (append-nil front)
      go [] empty (suc n) e = sym e ∙ ap (λ (ts : List Token). Some ts) (append-nil front)
      go (b ∷ bs) empty n e = absurd (omega arith)

  -- all of the tokens are no fewer than those that were read
  pub no_fewer : (at : ℕ) (rest : List ℕ) (all : List Token) → total ≡ Some all → StillReads front at rest total → length front ≤ length all
  no_fewer at rest all e s = go (lex_at s.fuel at rest) (s.so_far ∙ e)
    where
      go : (r : Option (List Token)) → with_front front r ≡ Some all → length front ≤ length all
      go None e = absurd cc
      go (Some ts) e = let same : front ++ ts ≡ all = some_is (front ++ ts) all e in omega (arith, length-append front ts, ap length same)
