-- Reading from left to right gives exactly a text's tokens.
use Rattle.std.proofs.Common.{◌≡◌, ℕ, zero, suc, ◌+◌, ◌≤◌, ◌<◌, List, [], ◌∷◌, ◌++◌, length, drop, Option, Some, None, refl, sym, ap, subst, ◌∙◌, arith}
use Rattle.std.specs.Prelude.{option_map}
use Rattle.std.proofs.lemmas.List.{length-append, length-drop}
use Rattle.std.proofs.Math.Seq.{drop-append_seam}
use Rattle.sql_lexer.proofs.Options.{some_is}
use Rattle.client_statements.specs.declared.tokens.token.Token.{Token}
use Rattle.client_statements.specs.tokens.Tokens.{onto_tokens, HasTokensFrom}
use Rattle.client_statements.specs.tokens.Tokens as t
use Rattle.client_statements.specs.tokens.inner.Scanning.{Front, piece_at, tokens_at}
use Rattle.client_statements.proofs.tokens.Fronts.{Found, piece_sound, map_some}
use Rattle.client_statements.proofs.tokens.FrontsAgain.{piece_again, some_bytes}

pub past_front : (bs : List ℕ) (x : Front) (f : Found bs x) → drop x.1 bs ≡ f.rest
past_front bs x f = rw (f.size) (subst (λ (cs : List ℕ). drop (length f.front) cs ≡ f.rest) (sym f.parts) (drop-append_seam f.front f.rest))

-- a piece has a byte, and stands within the text
pub piece_within : (bs : List ℕ) (x : Front) → piece_at bs ≡ Some x → (0 < x.1) × (x.1 ≤ length bs)
piece_within bs x e =
    let f = piece_sound bs x e in
    let some = some_bytes f.stands in
    let size = f.size in
    let all = ap length f.parts in
    (omega (arith, size, some), omega (arith, size, all, length-append f.front f.rest))

-- what is read from here on, after a piece
abbrev pub after_piece : ℕ → ℕ → List ℕ → Option Front → Option (List Token)
after_piece n at bs (Some x) = option_map (onto_tokens x.0 at (at + x.1)) (tokens_at n (at + x.1) (drop x.1 bs))
after_piece n at bs None = None

pub one_piece : (n at b : ℕ) (bs : List ℕ) → tokens_at (suc n) at (b ∷ bs) ≡ after_piece n at (b ∷ bs) (piece_at (b ∷ bs))
unfolding tokens_at
one_piece n at b bs = go (piece_at (b ∷ bs))
  where
    go : (o : Option Front) → (elim o [ Some x ↦ option_map (onto_tokens x.0 at (at + x.1)) (tokens_at n (at + x.1) (drop x.1 (b ∷ bs))) | None ↦ None ])
        ≡ after_piece n at (b ∷ bs) o
    go None = refl
    go (Some x) = refl

pub lex_sound : (n at : ℕ) (bs : List ℕ) (tokens : List Token) → length bs ≤ n → tokens_at n at bs ≡ Some tokens → HasTokensFrom at bs tokens
unfolding tokens_at
lex_sound zero at [] tokens le e = subst (HasTokensFrom at []) (some_is [] tokens e) t.end
lex_sound zero at (b ∷ bs) tokens le e = absurd (omega arith)
lex_sound (suc n) at [] tokens le e = subst (HasTokensFrom at []) (some_is [] tokens e) t.end
lex_sound (suc n) at (b ∷ bs) tokens le e = go (piece_at (b ∷ bs)) refl (sym (one_piece n at b bs) ∙ e) (lex_sound n)
  where
    go : (o : Option Front) → piece_at (b ∷ bs) ≡ o → after_piece n at (b ∷ bs) o ≡ Some tokens
        → ((at : ℕ) (cs : List ℕ) (ts : List Token) → length cs ≤ n → tokens_at n at cs ≡ Some ts → HasTokensFrom at cs ts) → HasTokensFrom at (b ∷ bs) tokens
    go None is e rec = absurd cc
    go (Some x) is e rec =
        let f = piece_sound (b ∷ bs) x is in
        let m = map_some (onto_tokens x.0 at (at + x.1)) (tokens_at n (at + x.1) (drop x.1 (b ∷ bs))) tokens e in
        let within = piece_within (b ∷ bs) x is in
        let shorter : length (drop x.1 (b ∷ bs)) ≤ n = omega (arith, within.0, within.1, length-drop x.1 (b ∷ bs)) in
        let later : HasTokensFrom (at + x.1) (drop x.1 (b ∷ bs)) m.0 = rec (at + x.1) (drop x.1 (b ∷ bs)) m.0 shorter m.1 in
        let there : HasTokensFrom (at + length f.front) f.rest m.0 =
        subst (λ (cs : List ℕ). HasTokensFrom (at + length f.front) cs m.0) (past_front (b ∷ bs) x f)
        (subst (λ (k : ℕ). HasTokensFrom (at + k) (drop x.1 (b ∷ bs)) m.0) f.size later) in
        let r : HasTokensFrom at (f.front ++ f.rest) (onto_tokens x.0 at (at + length f.front) m.0) = t.piece f.stands there in
        let whole : HasTokensFrom at (b ∷ bs) (onto_tokens x.0 at (at + x.1) m.0) =
        subst (λ (k : ℕ). HasTokensFrom at (b ∷ bs) (onto_tokens x.0 at (at + k) m.0)) (sym f.size)
        (subst (λ (cs : List ℕ). HasTokensFrom at cs (onto_tokens x.0 at (at + length f.front) m.0)) (sym f.parts) r) in
        subst (HasTokensFrom at (b ∷ bs)) m.2 whole

-- a piece, and what is read after it
read_piece : (n at : ℕ) (bs rest : List ℕ) (x : Front) (tokens : List Token) → 0 < length bs → length bs + length rest ≤ suc n → x.1 ≡ length bs
    → piece_at (bs ++ rest) ≡ Some x → tokens_at n (at + length bs) rest ≡ Some tokens
    → tokens_at (suc n) at (bs ++ rest) ≡ Some (onto_tokens x.0 at (at + length bs) tokens)
read_piece n at [] rest x tokens some le size is tail = absurd (omega arith)
read_piece n at (b ∷ bs) rest x tokens some le size is tail =
    let trailing : tokens_at n (at + x.1) (drop x.1 ((b ∷ bs) ++ rest)) ≡ Some tokens = rw (size, drop-append_seam (b ∷ bs) rest) tail in
    one_piece n at b (bs ++ rest) ∙ ap (after_piece n at ((b ∷ bs) ++ rest)) is ∙ ap (option_map (onto_tokens x.0 at (at + x.1))) trailing
    ∙ ap (λ (k : ℕ). Some (onto_tokens x.0 at (at + k) tokens)) size

pub lex_again : {at : ℕ} {bs : List ℕ} {tokens : List Token} → HasTokensFrom at bs tokens → (n : ℕ) → length bs ≤ n → tokens_at n at bs ≡ Some tokens
unfolding tokens_at
lex_again t.end zero le = refl
lex_again t.end (suc n) le = refl
lex_again (t.piece {at} {bytes} {rest} {what} {tokens} stands r) zero le =
    let some = some_bytes stands in absurd (omega (arith, some, length-append bytes rest))
lex_again (t.piece {at} {bytes} {rest} {what} {tokens} stands r) (suc n) le =
    let some = some_bytes stands in
    let size = length-append bytes rest in
    read_piece n at bytes rest (what, length bytes) tokens some (omega arith) refl (piece_again stands) (lex_again r n (omega arith))
