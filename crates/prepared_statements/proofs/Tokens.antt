-- Filled texts, token by token.
use Rattle.std.proofs.Common.{◌≡◌, ℕ, zero, suc, ◌+◌, List, [], ◌∷◌, ◌++◌, length, true, refl, ap, sym, subst, ◌∙◌, append_assoc, pos, negsuc, arith}
use Rattle.std.specs.List.{AllByRecursion}
use Rattle.std.proofs.lemmas.List.{length-append}
use Rattle.sql_lexer.specs.Value.{Value}
use Rattle.sql_lexer.specs.Value.TheVariants.{Null, Int, Bytes}
use Rattle.sql_lexer.specs.declared.token.Keyword.TheVariants as K
use Rattle.sql_lexer.specs.declared.token.Sign.TheVariants.{Minus}
use Rattle.sql_lexer.specs.declared.token.Token.{Token}
use Rattle.sql_lexer.specs.declared.token.TokenKind.{TokenKind}
use Rattle.sql_lexer.specs.declared.token.TokenKind.TheVariants as kind
use Rattle.sql_lexer.specs.Lexemes.{Lexeme, sign, number, said_by, lexemes_of, ends_token}
use Rattle.sql_lexer.specs.Lexemes as x
use Rattle.sql_lexer.specs.Tokens.{Lexes, LexesFrom}
use Rattle.sql_lexer.specs.Tokens as t
use Rattle.sql_lexer.proofs.Lexes.{lex_again}
use Rattle.sql_tree.specs.Printing.{value_text}
use Rattle.sql_parser.specs.Grammar.{ReadsLiteral}
use Rattle.sql_parser.specs.Grammar as g
use Rattle.sql_parser.proofs.Says.{Part, at_blank, breaks_end, slice, word}
use Rattle.sql_parser.proofs.Says as s
use Rattle.sql_parser.proofs.PrintedLists.{sign_says}
use Rattle.sql_parser.proofs.SpelledParts.{number_part, text_part}
use Rattle.prepared_statements.specs.Texts.{filled}
use Rattle.prepared_statements.specs.Tokens.{IsLiteral, literal_said, PiecesSay, said_with}
use Rattle.prepared_statements.specs.Tokens as f

pub literal_reads : (v : Value) → IsLiteral v → ReadsLiteral (literal_said v) v
literal_reads Null h = g.null
literal_reads (Int (pos n)) h = g.natural n h
literal_reads (Int (negsuc n)) h = g.negative (suc n) h
literal_reads (Bytes t) h = g.string t

value_part : (v : Value) → IsLiteral v → Part (value_text v) (literal_said v)
value_part Null h = word K.Null
value_part (Int (pos n)) h = number_part n h
value_part (Int (negsuc n)) h = λ rest ms b r. sign_says Minus _ _ (number_part (suc n) (omega (arith, h)) rest ms b r)
value_part (Bytes t) h = text_part t

-- ---- from tokens to what they say, and back

pub says_of : (before bytes : List ℕ) (tokens : List Token) (at : ℕ) → at ≡ length before → LexesFrom at bytes tokens → s.Says bytes (lexemes_of (before ++ bytes) tokens)
says_of before _ _ _ e t.end = s.nothing
says_of before _ _ _ e (t.blank {at = at} {b = b} {rest = rest} {tokens = tokens} h r) =
    s.blank h
    (subst (λ (bs : List ℕ). s.Says rest (lexemes_of bs tokens)) (append_assoc before (b ∷ []) rest)
    (says_of (before ++ b ∷ []) rest tokens (at + 1) (omega (arith, e, length-append before (b ∷ []))) r))
says_of before _ _ _ e (t.token {at = at} {bytes = bytes} {rest = rest} {kind = kind} {tokens = tokens} h ends r) =
    let later =
    subst (λ (bs : List ℕ). s.Says rest (lexemes_of bs tokens)) (append_assoc before bytes rest)
    (says_of (before ++ bytes) rest tokens (at + length bytes) (ap (λ (n : ℕ). n + length bytes) e ∙ sym (length-append before bytes)) r)
    in
    rw (e, slice before bytes rest) (s.token h ends later)

record Lexed (before bytes : List ℕ) (ls : List Lexeme) : Type 0 where
  tokens : List Token
  lexes : LexesFrom (length before) bytes tokens
  says : lexemes_of (before ++ bytes) tokens ≡ ls

lexed : (before bytes : List ℕ) (ls : List Lexeme) → s.Says bytes ls → Lexed before bytes ls
lexed before _ _ s.nothing = record { tokens = []; lexes = t.end; says = refl }
lexed before _ _ (s.blank {b} {rest} {ls} h r) =
    let l = lexed (before ++ b ∷ []) rest ls r in
    let at : length (before ++ b ∷ []) ≡ length before + 1 = omega (arith, length-append before (b ∷ [])) in
    record {
      tokens = l.tokens;
      lexes = t.blank h (subst (λ (n : ℕ). LexesFrom n rest l.tokens) at l.lexes);
      says = subst (λ (bs : List ℕ). lexemes_of bs l.tokens ≡ ls) (append_assoc before (b ∷ []) rest) l.says;
    }
lexed before _ _ (s.token {bytes} {rest} {which} {ls} h e r) =
    let l = lexed (before ++ bytes) rest ls r in
    let later : lexemes_of (before ++ (bytes ++ rest)) l.tokens ≡ ls = subst (λ (bs : List ℕ). lexemes_of bs l.tokens ≡ ls) (append_assoc before bytes rest) l.says in
    record {
      tokens = record { kind = which; start = length before; end = length before + length bytes } ∷ l.tokens;
      lexes = t.token h e (subst (λ (n : ℕ). LexesFrom n rest l.tokens) (length-append before bytes) l.lexes);
      says = rw (slice before bytes rest, later) refl;
    }

pub tokens_of : (bytes : List ℕ) (ls : List Lexeme) → s.Says bytes ls → (tokens : List Token) × Lexes bytes tokens × (lexemes_of bytes tokens ≡ ls)
tokens_of bytes ls says = let l = lexed [] bytes ls says in (l.tokens, l.lexes, l.says)

-- ---- a blank between

ends_before_blank : (which : TokenKind) (rest more : List ℕ) → ends_token which rest ≡ true → ends_token which (rest ++ 0x20 ∷ more) ≡ true
ends_before_blank which [] more e = breaks_end which (0x20 ∷ more) at_blank
ends_before_blank which (b ∷ rest) more e = e

with_blank : (bytes more : List ℕ) (ls ms : List Lexeme) → s.Says bytes ls → s.Says more ms → s.Says (bytes ++ 0x20 ∷ more) (ls ++ ms)
with_blank _ more _ ms s.nothing r = s.blank refl r
with_blank _ more _ ms (s.blank {b} {rest} {ls} h q) r = s.blank h (with_blank rest more ls ms q r)
with_blank _ more _ ms (s.token {bytes} {rest} {which} {ls} h e q) r =
    subst (λ (bs : List ℕ). s.Says bs (said_by which bytes ∷ ls ++ ms)) (sym (append_assoc bytes rest (0x20 ∷ more)))
    (s.token h (ends_before_blank which rest more e) (with_blank rest more ls ms q r))

-- ---- filled texts

pub filled_says : (pieces : List (List ℕ)) (said : List (List Lexeme)) (values : List Value) → PiecesSay pieces said → AllByRecursion IsLiteral values
    → s.Says (filled pieces values) (said_with said values)
filled_says _ _ values f.none fit = s.nothing
filled_says _ _ [] (f.more {piece = piece} {tokens = tokens} lexes others) fit = says_of [] piece tokens 0 refl lexes
filled_says _ _ (v ∷ values) (f.more {piece = piece} {pieces = pieces} {tokens = tokens} {said = said} lexes others) fit =
    let later = filled_says pieces said values others fit.1 in
    with_blank piece (value_text v ++ 0x20 ∷ filled pieces values) (lexemes_of piece tokens) (literal_said v ++ said_with said values) (says_of [] piece tokens 0 refl lexes)
    (value_part v fit.0 (0x20 ∷ filled pieces values) (said_with said values) at_blank (s.blank refl later))

pub filled_tokens : (pieces : List (List ℕ)) (said : List (List Lexeme)) (values : List Value) → PiecesSay pieces said → AllByRecursion IsLiteral values
    → (tokens : List Token) × Lexes (filled pieces values) tokens × (lexemes_of (filled pieces values) tokens ≡ said_with said values)
filled_tokens pieces said values say fit = tokens_of (filled pieces values) (said_with said values) (filled_says pieces said values say fit)
