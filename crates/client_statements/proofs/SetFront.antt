-- The third letter of a text that begins with SET.
use Rattle.std.proofs.Common.{◌≡◌, ℕ, ◌+◌, ◌<◌, ◌≤◌, Bool, true, false, cond, eqb, not, ◌&&◌, List, [], ◌∷◌, ◌++◌, map, length, Option, Some, None, refl, sym, ap, subst, ◌∙◌, arith}
use Rattle.std.specs.Prelude.{codes, bytes_eq, nat_lt, slice_index_or}
use Rattle.std.specs.Char.{to_ascii_lowercase}
use Rattle.std.specs.List.{find}
use Rattle.std.proofs.lemmas.Bool.{and_parts}
use Rattle.std.proofs.lemmas.Slice.Eq.{bytes_eq-Decides}
use Rattle.sql_lexer.specs.Lexemes.{is_blank, is_letter}
use Rattle.client_statements.specs.declared.tokens.token.Token.{Token}
use Rattle.client_statements.specs.declared.tokens.token.TokenKind.{TokenKind}
use Rattle.client_statements.specs.declared.tokens.token.TokenKind.TheVariants.{Word}
use Rattle.client_statements.specs.declared.tokens.token.Keyword.{Keyword}
use Rattle.client_statements.specs.declared.tokens.token.Keyword.TheVariants as k
use Rattle.client_statements.specs.tokens.Keywords.{keywords, keyword_text, keyword_of, same_in_any_case}
use Rattle.client_statements.specs.tokens.Pieces.{IsPiece, operator_kind}
use Rattle.client_statements.specs.tokens.Pieces as s
use Rattle.client_statements.specs.tokens.Tokens.{HasTokensFrom, onto_tokens}
use Rattle.client_statements.specs.tokens.Tokens as t
use Rattle.client_statements.specs.inner.Fronts.{is_no_set}
use Rattle.client_statements.specs.Asks.{IsSet}
use Rattle.client_statements.specs.Asks as q
use Rattle.client_statements.proofs.tokens.Fronts.{letter_no_blank, passes_not, fails_not}

found_passes : (p : Keyword → Bool) (xs : List Keyword) (x : Keyword) → find p xs ≡ Some x → p x ≡ true
found_passes p [] x e = absurd (cc)
found_passes p (y ∷ xs) x e = go (p y) refl e (found_passes p xs x)
  where
    go : (b : Bool) → p y ≡ b → cond b (Some y) (find p xs) ≡ Some x → (find p xs ≡ Some x → p x ≡ true) → p x ≡ true
    go true is e later = let same : y ≡ x = cc in subst (λ (z : Keyword). p z ≡ true) same is
    go false is e later = later e

-- a word that is SET has three letters, of which the last is a T
set_word : (w : List ℕ) → keyword_of w ≡ Some k.Set → map to_ascii_lowercase w ≡ 0x73 ∷ 0x65 ∷ 0x74 ∷ []
unfolding keyword_of
set_word w e = (bytes_eq-Decides (map to_ascii_lowercase w) (map to_ascii_lowercase (codes "SET"))).0 (found_passes (λ key. same_in_any_case w (keyword_text key)) keywords k.Set e)

third_is : (w rest : List ℕ) (a b c : ℕ) (more : List ℕ) → w ++ rest ≡ a ∷ b ∷ c ∷ more → map to_ascii_lowercase w ≡ 0x73 ∷ 0x65 ∷ 0x74 ∷ []
    → to_ascii_lowercase c ≡ 0x74
third_is (x ∷ y ∷ z ∷ []) rest a b c more parts is =
    let same : z ≡ c = cc in
    let low : to_ascii_lowercase z ≡ 0x74 = cc in
    subst (λ (n : ℕ). to_ascii_lowercase n ≡ 0x74) same low
third_is [] rest a b c more parts is = absurd (cc)
third_is (x ∷ []) rest a b c more parts is = absurd (cc)
third_is (x ∷ y ∷ []) rest a b c more parts is = absurd (cc)
third_is (x ∷ y ∷ z ∷ v ∷ w) rest a b c more parts is = absurd (cc)

-- a letter that is a T in lower case is a T
lower_t : (c : ℕ) → to_ascii_lowercase c ≡ 0x74 → eqb c 0x74 ≡ false → eqb c 0x54 ≡ false → ⊥
lower_t c is no_t no_upper_t = go (nat_lt c 65) refl (nat_lt c 91) refl is
  where
    lower : c ≡ 0x74 → ⊥
    lower e = let wrong : eqb 0x74 0x74 ≡ false = subst (λ (n : ℕ). eqb n 0x74 ≡ false) e no_t in cc

    upper : c ≡ 0x54 → ⊥
    upper e = let wrong : eqb 0x54 0x54 ≡ false = subst (λ (n : ℕ). eqb n 0x54 ≡ false) e no_upper_t in cc

    go : (p : Bool) → nat_lt c 65 ≡ p → (q : Bool) → nat_lt c 91 ≡ q → cond p c (cond q (c + 32) c) ≡ 0x74 → ⊥
    go true _ q _ is = lower is
    go false _ true _ is = upper (omega (arith, is))
    go false _ false _ is = lower is

no_letter : (a b : ℕ) → a ≡ b → is_letter a ≡ true → is_letter b ≡ false → ⊥
no_letter a b same letter other = let wrong : true ≡ false = sym letter ∙ ap is_letter same ∙ other in cc

piece_set : (bytes rest : List ℕ) (what : Option TokenKind) (a b c : ℕ) (more : List ℕ) → IsPiece bytes rest what → bytes ++ rest ≡ a ∷ b ∷ c ∷ more → is_letter a ≡ true
    → (what ≡ Some (Word (Some k.Set)) → to_ascii_lowercase c ≡ 0x74) × (what ≡ None → ⊥)
piece_set _ rest _ a b c more (s.blank {b = x} is) parts letter =
    (λ e. absurd (cc), λ e. let same : x ≡ a = cc in let wrong : true ≡ false = sym is ∙ ap is_blank same ∙ letter_no_blank a letter in cc)
piece_set _ rest _ a b c more (s.hash h stop) parts letter = (λ e. absurd (cc), λ e. let same : a ≡ 0x23 = cc in no_letter a 0x23 same letter refl)
piece_set _ rest _ a b c more (s.dashes h stop blank) parts letter = (λ e. absurd (cc), λ e. let same : a ≡ 0x2D = cc in no_letter a 0x2D same letter refl)
piece_set _ rest _ a b c more (s.remark bytes plain unclosed) parts letter = (λ e. absurd (cc), λ e. let same : a ≡ 0x2F = cc in no_letter a 0x2F same letter refl)
piece_set _ rest _ a b c more (s.word {b = x} {bytes} first all stop) parts letter =
    (λ e. let is : keyword_of (x ∷ bytes) ≡ Some k.Set = cc in third_is (x ∷ bytes) rest a b c more parts (set_word (x ∷ bytes) is), λ e. cc)
piece_set _ rest _ a b c more (s.name bytes h stop) parts letter = (λ e. absurd (cc), λ e. cc)
piece_set _ rest _ a b c more (s.variable first h stop) parts letter = (λ e. absurd (cc), λ e. cc)
piece_set _ rest _ a b c more (s.number digit h stop) parts letter = (λ e. absurd (cc), λ e. cc)
piece_set _ rest _ a b c more (s.text is body stop) parts letter = (λ e. absurd (cc), λ e. cc)
piece_set _ rest _ a b c more (s.operator {b = x} {bytes} is h stop) parts letter = (λ e. absurd (by (bytes_eq (x ∷ bytes) (codes "=")) refl e), λ e. cc)
  where
    by : (t : Bool) → bytes_eq (x ∷ bytes) (codes "=") ≡ t → ◌≡◌ {A = Option TokenKind} (Some (operator_kind (x ∷ bytes))) (Some (Word (Some k.Set))) → ⊥
    by true same e = let wrong = rw same at e in cc
    by false same e = let wrong = rw same at e in cc
piece_set _ rest _ a b c more (s.sign which follows) parts letter = (λ e. absurd (cc), λ e. cc)

-- the first token of a text that begins with a letter is at its front
third : (text : List ℕ) (ts us : List Token) (first : Token) (a b c : ℕ) (more : List ℕ) → HasTokensFrom 0 text ts → ts ≡ first ∷ us
    → first.kind ≡ Word (Some k.Set) → text ≡ a ∷ b ∷ c ∷ more → is_letter a ≡ true → to_ascii_lowercase c ≡ 0x74
third _ _ us first a b c more t.end are is parts letter = absurd (cc)
third _ _ us first a b c more (t.piece {bytes} {rest} {what = None} {tokens} p has) are is parts letter =
    absurd ((piece_set bytes rest None a b c more p parts letter).1 refl)
third _ _ us first a b c more (t.piece {at} {bytes} {rest} {what = Some kind} {tokens} p has) are is parts letter =
    let same : kind ≡ first.kind = cc in
    (piece_set bytes rest (Some kind) a b c more p parts letter).0 (ap (λ (x : TokenKind). Some x) (same ∙ is))

not_set : (a b c : ℕ) (more : List ℕ) → is_letter a ≡ true → eqb c 0x74 ≡ false → eqb c 0x54 ≡ false → IsSet (a ∷ b ∷ c ∷ more) → ⊥
not_set a b c more letter no_t no_upper_t (q.set {tokens} {first} has is) =
    lower_t c (third (a ∷ b ∷ c ∷ more) (first ∷ tokens) tokens first a b c more has refl is refl letter) no_t no_upper_t

no_set : (a b c : ℕ) (more : List ℕ) → is_no_set a c ≡ true → IsSet (a ∷ b ∷ c ∷ more) → ⊥
no_set a b c more is =
    let two = and_parts (is_letter a && not (eqb c 0x74)) (not (eqb c 0x54)) is in
    let one = and_parts (is_letter a) (not (eqb c 0x74)) two.0 in
    not_set a b c more one.0 (fails_not (eqb c 0x74) one.1) (fails_not (eqb c 0x54) two.1)

pub not_set_by : (text : List ℕ) → 3 ≤ length text → not (is_no_set (slice_index_or text 0 0) (slice_index_or text 2 0)) ≡ false → IsSet text → ⊥
not_set_by [] long is = absurd (omega arith)
not_set_by (a ∷ []) long is = absurd (omega arith)
not_set_by (a ∷ b ∷ []) long is = absurd (omega arith)
not_set_by (a ∷ b ∷ c ∷ more) long is = no_set a b c more (passes_not (is_no_set a c) is)
