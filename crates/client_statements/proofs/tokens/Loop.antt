-- The loop over a text, against the reading of all of it.
use Rattle.std.proofs.Common.{◌≡◌, ℕ, zero, suc, ◌+◌, ◌≤◌, ◌<◌, List, [], ◌∷◌, ◌++◌, length, drop, Option, Some, None, refl, sym, ap, ◌∙◌, append_assoc, arith}
use Rattle.std.specs.Prelude.{option_map}
use Rattle.std.proofs.lemmas.List.{append-nil, length-drop}
use Rattle.client_statements.specs.declared.tokens.token.Token.{Token}
use Rattle.client_statements.specs.declared.tokens.token.TokenKind.{TokenKind}
use Rattle.client_statements.specs.tokens.Tokens.{onto_tokens}
use Rattle.client_statements.specs.tokens.inner.Scanning.{Front, piece_at, tokens_at}
use Rattle.client_statements.proofs.tokens.Lexes.{piece_within, after_piece, one_piece}

abbrev pub with_front : List Token → Option (List Token) → Option (List Token)
with_front front read = option_map (λ ts. front ++ ts) read

-- the tokens that were read before, with those of one more piece
abbrev pub and_piece : List Token → Option TokenKind → ℕ → ℕ → List Token
and_piece front what start end = front ++ onto_tokens what start end []

-- what was read, with what is read from here on, is all
pub record StillReads (front : List Token) (at : ℕ) (rest : List ℕ) (total : Option (List Token)) : Type 0 where
  pub fuel : ℕ
  pub enough : length rest ≤ fuel
  pub so_far : with_front front (tokens_at fuel at rest) ≡ total

pub starts_reading : (text : List ℕ) → StillReads [] 0 text (tokens_at (length text) 0 text)
starts_reading text = record { fuel = length text; enough = omega arith; so_far = go (tokens_at (length text) 0 text) }
  where
    go : (r : Option (List Token)) → with_front [] r ≡ r
    go None = refl
    go (Some ts) = refl

regroup : (front : List Token) (what : Option TokenKind) (start end : ℕ) (r : Option (List Token))
    → with_front front (option_map (onto_tokens what start end) r) ≡ with_front (and_piece front what start end) r
regroup front (Some kind) start end (Some ts) = ap (λ (us : List Token). Some us) (simp append_assoc)
regroup front None start end (Some ts) = ap (λ (us : List Token). Some us) (simp append-nil)
regroup front what start end None = refl

module _ (front : List Token) (total : Option (List Token)) where
  pub goes_on : (at : ℕ) (rest : List ℕ) (x : Front) → piece_at rest ≡ Some x → StillReads front at rest total
      → StillReads (and_piece front x.0 at (at + x.1)) (at + x.1) (drop x.1 rest) total
  goes_on at rest x read s = go rest read s.fuel s.enough s.so_far
    where
      go : (bs : List ℕ) → piece_at bs ≡ Some x → (n : ℕ) → length bs ≤ n → with_front front (tokens_at n at bs) ≡ total
          → StillReads (and_piece front x.0 at (at + x.1)) (at + x.1) (drop x.1 bs) total
      go [] read n le e = let within = piece_within [] x read in absurd (omega (arith, within.0, within.1))
      go (b ∷ bs) read zero le e = absurd (omega arith)
      go (b ∷ bs) read (suc n) le e =
          let within = piece_within (b ∷ bs) x read in
          let one : tokens_at (suc n) at (b ∷ bs) ≡ option_map (onto_tokens x.0 at (at + x.1)) (tokens_at n (at + x.1) (drop x.1 (b ∷ bs))) =
          one_piece n at b bs ∙ ap (after_piece n at (b ∷ bs)) read in
          record {
            fuel = n;
            enough = omega (arith, within.0, within.1, length-drop x.1 (b ∷ bs));
            so_far = sym (regroup front x.0 at (at + x.1) (tokens_at n (at + x.1) (drop x.1 (b ∷ bs)))) ∙ ap (with_front front) (sym one) ∙ e;
          }

  pub no_piece : (at : ℕ) (rest : List ℕ) → 0 < length rest → piece_at rest ≡ None → StillReads front at rest total → None ≡ total
  no_piece at rest some read s = go rest some read s.fuel s.enough s.so_far
    where
      go : (bs : List ℕ) → 0 < length bs → piece_at bs ≡ None → (n : ℕ) → length bs ≤ n → with_front front (tokens_at n at bs) ≡ total → None ≡ total
      go [] some read n le e = absurd (omega arith)
      go (b ∷ bs) some read zero le e = absurd (omega arith)
      go (b ∷ bs) some read (suc n) le e =
          let one : tokens_at (suc n) at (b ∷ bs) ≡ None = one_piece n at b bs ∙ ap (after_piece n at (b ∷ bs)) read in
          ap (with_front front) (sym one) ∙ e

  pub is_done : (at : ℕ) (rest : List ℕ) → length rest ≡ 0 → StillReads front at rest total → Some front ≡ total
  unfolding tokens_at
  is_done at rest empty s = go rest empty s.fuel s.so_far
    where
      go : (bs : List ℕ) → length bs ≡ 0 → (n : ℕ) → with_front front (tokens_at n at bs) ≡ total → Some front ≡ total
      go [] empty zero e = ap (λ (ts : List Token). Some ts) (sym (append-nil front)) ∙ e
      go [] empty (suc n) e = ap (λ (ts : List Token). Some ts) (sym (append-nil front)) ∙ e
      go (b ∷ bs) empty n e = absurd (omega arith)
