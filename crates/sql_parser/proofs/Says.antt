-- What the tokens of a text say, as the text is put together from its end.
use Rattle.std.proofs.Common.{◌≡◌, ℕ, ◌+◌, ◌-◌, ◌≤◌, List, [], ◌∷◌, ◌++◌, length, true, false, refl, sym, subst, append_assoc, arith}
use Rattle.std.specs.Prelude.{slice_range}
use Rattle.std.proofs.lemmas.List.{length-append}
use Rattle.std.proofs.Math.Seq.{drop-append_seam, take-append_seam}
use Rattle.vt_value.specs.declared.value.Comparison.{Comparison}
use Rattle.vt_value.specs.declared.value.Comparison.TheVariants.{Eq, Ne, Lt, Le, Gt, Ge}
use Rattle.sql_lexer.specs.declared.token.Token.{Token}
use Rattle.sql_lexer.specs.declared.token.Keyword.{Keyword}
use Rattle.sql_lexer.specs.declared.token.Keyword.TheVariants as k
use Rattle.sql_lexer.specs.declared.token.TokenKind.{TokenKind}
use Rattle.sql_lexer.specs.declared.token.TokenKind.TheVariants as kind
use Rattle.sql_lexer.specs.Keywords.{keyword_text}
use Rattle.sql_lexer.specs.Lexemes.{Lexeme, keyword, sign, operator, said_by, lexemes_of, is_blank, is_spelling_of, Spells, ends_token, operator_text, sign_text}
use Rattle.sql_lexer.specs.Lexemes as s
use Rattle.sql_lexer.specs.Tokens.{LexesFrom}
use Rattle.sql_lexer.specs.Tokens as t
use Rattle.sql_tree.specs.declared.Statement.{Statement}
use Rattle.sql_tree.specs.Literals.{literals_of}
use Rattle.sql_parser.specs.Qualifiers.{qualifies_outside_select}
use Rattle.sql_parser.specs.Grammar.{Lexemes, Reads, ReadsText, max_literals}

pub data Says : List ℕ → Lexemes → Type 0 where
  nothing : Says [] []
  blank : {b : ℕ} {rest : List ℕ} {ls : Lexemes} → is_blank b ≡ true → Says rest ls → Says (b ∷ rest) ls
  token : {bytes rest : List ℕ} {which : TokenKind} {ls : Lexemes} → Spells bytes which → ends_token which rest ≡ true → Says rest ls
      → Says (bytes ++ rest) (said_by which bytes ∷ ls)

-- the tokens of these bytes after others
record Lexed (before bytes : List ℕ) (ls : Lexemes) : Type 0 where
  tokens : List Token
  lexes : LexesFrom (length before) bytes tokens
  says : lexemes_of (before ++ bytes) tokens ≡ ls

pub slice : (before bytes rest : List ℕ) → slice_range (before ++ (bytes ++ rest)) (length before) (length before + length bytes) ≡ bytes
slice before bytes rest =
    let e : length before + length bytes - length before ≡ length bytes = omega arith in
    rw (e, drop-append_seam before (bytes ++ rest)) (take-append_seam bytes rest)

lexed : (before bytes : List ℕ) (ls : Lexemes) → Says bytes ls → Lexed before bytes ls
lexed before _ _ nothing = record { tokens = []; lexes = t.end; says = refl }
lexed before _ _ (blank {b} {rest} {ls} h r) =
    let f = lexed (before ++ b ∷ []) rest ls r in
    let at : length (before ++ b ∷ []) ≡ length before + 1 = omega (arith, length-append before (b ∷ [])) in
    record {
      tokens = f.tokens;
      lexes = t.blank h (subst (λ (n : ℕ). LexesFrom n rest f.tokens) at f.lexes);
      says = subst (λ (bs : List ℕ). lexemes_of bs f.tokens ≡ ls) (append_assoc before (b ∷ []) rest) f.says;
    }
lexed before _ _ (token {bytes} {rest} {which} {ls} h e r) =
    let f = lexed (before ++ bytes) rest ls r in
    let later : lexemes_of (before ++ (bytes ++ rest)) f.tokens ≡ ls = subst (λ (bs : List ℕ). lexemes_of bs f.tokens ≡ ls) (append_assoc before bytes rest) f.says in
    record {
      tokens = record { kind = which; start = length before; end = length before + length bytes } ∷ f.tokens;
      lexes = t.token h e (subst (λ (n : ℕ). LexesFrom n rest f.tokens) (length-append before bytes) f.lexes);
      says = rw (slice before bytes rest, later) refl;
    }

pub says_reads : (bytes : List ℕ) (ls : Lexemes) (x : Statement) → Says bytes ls → ReadsText ls x → literals_of x ≤ max_literals
    → qualifies_outside_select x ≡ false → Reads bytes x
says_reads bytes ls x says reads few plain =
    let f = lexed [] bytes ls says in
    (f.tokens, f.lexes, subst (λ (us : Lexemes). ReadsText us x) (sym f.says) reads, few, plain)

-- ---- what may come right after a word, a number or a text

pub data Breaks : List ℕ → Type 0 where
  at_end : Breaks []
  at_blank : {bs : List ℕ} → Breaks (0x20 ∷ bs)
  at_open : {bs : List ℕ} → Breaks (0x28 ∷ bs)
  at_close : {bs : List ℕ} → Breaks (0x29 ∷ bs)
  at_comma : {bs : List ℕ} → Breaks (0x2C ∷ bs)
  at_dot : {bs : List ℕ} → Breaks (0x2E ∷ bs)

ends_operator : (op : Comparison) (rest : List ℕ) → Breaks rest → ends_token (kind.Operator op) rest ≡ true
ends_operator op _ at_end = refl
ends_operator Eq _ _ = refl
ends_operator Ne _ _ = refl
ends_operator Le _ _ = refl
ends_operator Ge _ _ = refl
ends_operator Lt _ at_blank = refl
ends_operator Lt _ at_open = refl
ends_operator Lt _ at_close = refl
ends_operator Lt _ at_comma = refl
ends_operator Lt _ at_dot = refl
ends_operator Gt _ at_blank = refl
ends_operator Gt _ at_open = refl
ends_operator Gt _ at_close = refl
ends_operator Gt _ at_comma = refl
ends_operator Gt _ at_dot = refl

pub breaks_end : (which : TokenKind) (rest : List ℕ) → Breaks rest → ends_token which rest ≡ true
breaks_end which _ at_end = refl
breaks_end (kind.Operator op) rest b = ends_operator op rest b
breaks_end (kind.Sign x) _ at_blank = refl
breaks_end (kind.Sign x) _ at_open = refl
breaks_end (kind.Sign x) _ at_close = refl
breaks_end (kind.Sign x) _ at_comma = refl
breaks_end (kind.Sign x) _ at_dot = refl
breaks_end _ _ at_blank = refl
breaks_end _ _ at_open = refl
breaks_end _ _ at_close = refl
breaks_end _ _ at_comma = refl
breaks_end _ _ at_dot = refl

spelled : (f : Keyword) → is_spelling_of (keyword_text f) f ≡ true
spelled k.And = refl
spelled _ = refl

-- ---- parts of a text

-- These bytes say this, where what follows breaks.
abbrev pub Part : List ℕ → Lexemes → Type 0
Part bytes us = (rest : List ℕ) (ms : Lexemes) → Breaks rest → Says rest ms → Says (bytes ++ rest) (us ++ ms)

-- These bytes say this, whatever follows, and break what stands before them.
pub record Joint (bytes : List ℕ) (us : Lexemes) : Type 0 where
  pub says : (rest : List ℕ) (ms : Lexemes) → Says rest ms → Says (bytes ++ rest) (us ++ ms)
  pub breaks : (rest : List ℕ) → Breaks (bytes ++ rest)

pub one_token : (bytes : List ℕ) (which : TokenKind) → Spells bytes which → Part bytes (said_by which bytes ∷ [])
one_token bytes which h rest ms b r = token h (breaks_end which rest b) r

pub word : (f : Keyword) → Part (keyword_text f) (keyword f ∷ [])
word f = one_token (keyword_text f) (kind.Keyword f) (s.keyword_word f (spelled f))

-- a part, and what comes after it
pub then_joint : (a : List ℕ) (us : Lexemes) (j : List ℕ) (ws : Lexemes) → Part a us → Joint j ws
    → (rest : List ℕ) (ms : Lexemes) → Says rest ms → Says ((a ++ j) ++ rest) ((us ++ ws) ++ ms)
then_joint a us j ws p q rest ms r = simp append_assoc (p (j ++ rest) (ws ++ ms) (q.breaks rest) (q.says rest ms r))

pub join : (a : List ℕ) (us : Lexemes) (j : List ℕ) (ws : Lexemes) (b : List ℕ) (vs : Lexemes) → Part a us → Joint j ws → Part b vs
    → Part ((a ++ j) ++ b) (us ++ (ws ++ vs))
join a us j ws b vs p q r rest ms br x =
    simp append_assoc (p (j ++ (b ++ rest)) (ws ++ (vs ++ ms)) (q.breaks (b ++ rest)) (q.says (b ++ rest) (vs ++ ms) (r rest ms br x)))

-- a keyword between blanks
pub between_blanks : (f : Keyword) → Joint (0x20 ∷ keyword_text f ++ 0x20 ∷ []) (keyword f ∷ [])
between_blanks f = record {
  says = λ rest ms r. simp append_assoc (blank refl (word f (0x20 ∷ rest) ms at_blank (blank refl r)));
  breaks = λ rest. at_blank;
}

-- an operator between blanks
pub operator_says : (op : Comparison) (rest : List ℕ) (ms : Lexemes) → Says rest ms → Says (0x20 ∷ operator_text op ++ 0x20 ∷ rest) (operator op ∷ ms)
operator_says op rest ms r = blank refl (one_token (operator_text op) (kind.Operator op) (s.comparison op) (0x20 ∷ rest) ms at_blank (blank refl r))
