-- Whether a statement is a whole text, by its parts.
use Rattle.std.proofs.Common.{◌≡◌, ℕ, ◌≤◌, ◌-◌, ◌&&◌, ◌||◌, nat_le, Bool, true, false, if◌then◌else◌, List, [], ◌∷◌, take, drop, slice_index_or, Option, Some, None, length, refl, sym, arith}
use Rattle.std.specs.Prelude.{is_some}
use Rattle.std.proofs.lemmas.List.{take_all}
use Rattle.vt_value.specs.declared.value.Comparison.{Comparison}
use Rattle.sql_lexer.specs.declared.token.Token.{Token}
use Rattle.sql_lexer.specs.declared.token.TokenKind.TheVariants as kind
use Rattle.sql_lexer.specs.declared.token.Keyword.TheVariants as k
use Rattle.sql_lexer.specs.Endings.{is_end}
use Rattle.sql_lexer.specs.Lexemes.{identifier, number, operator, lexemes_of}
use Rattle.sql_tree.specs.declared.Select as S
use Rattle.sql_tree.specs.declared.Statement.TheVariants.{Select}
use Rattle.sql_tree.specs.Literals.{Name, filter_literals}
use Rattle.sql_parser.specs.Grammar.{Lexemes, max_literals}
use Rattle.sql_parser.specs.inner.Reading.{said, fitting, is_and, is_or, after_at, number_at, after_name_at, natural_at, literal_at, operand_at, test_at, predicate_at, joined_at, negation_at, not_at, compared_at, filter_at, where_at, is_text}

and_true : (b : Bool) → (b && true) ≡ b
and_true true = refl
and_true false = refl

pub select_is_text : (s : S.Select) (ts : Lexemes) → is_text (Select s, ts) ≡ (is_end ts && nat_le (filter_literals s.filter) max_literals)
select_is_text s ts = and_true _

-- a SELECT that ends its text
pub select_ends : (s : S.Select) (ts : Lexemes) → true ≡ (is_end ts && nat_le (filter_literals s.filter) max_literals)
    → (if is_text (Select s, ts) then Some (Select s) else None) ≡ Some (Select s)
select_ends s ts e = rw (select_is_text s ts, ← e) refl

-- and one that does not
pub select_goes_on : (s : S.Select) (ts : Lexemes) → false ≡ (is_end ts && nat_le (filter_literals s.filter) max_literals)
    → (if is_text (Select s, ts) then Some (Select s) else None) ≡ None
select_goes_on s ts e = rw (select_is_text s ts, ← e) refl

-- ---- the condition of a query by a key

no_more : (a b : Bool) → false ≡ (a || b) → (a ≡ false) × (b ≡ false)
no_more true b e = absurd cc
no_more false b e = (refl, sym e)

pub compared_is : (bytes : Name) (op : Comparison) (n : ℕ) (rest : Lexemes) → false ≡ (is_some (after_at is_and rest) || is_some (after_at is_or rest))
    → filter_at (identifier bytes ∷ operator op ∷ number n ∷ rest) ≡ compared_at (identifier bytes) op (number n) rest
unfolding joined_at not_at negation_at predicate_at test_at operand_at after_name_at literal_at natural_at number_at
compared_is bytes op n rest e =
    let ends = no_more (is_some (after_at is_and rest)) (is_some (after_at is_or rest)) e in
    go (fitting n) refl ends
  where
    go : (o : Option ℕ) → fitting n ≡ o → (is_some (after_at is_and rest) ≡ false) × (is_some (after_at is_or rest) ≡ false)
        → filter_at (identifier bytes ∷ operator op ∷ number n ∷ rest) ≡ compared_at (identifier bytes) op (number n) rest
    go (Some m) is ends = rw (is, ends.0, ends.1) refl
    go None is ends = rw is refl

-- the same, by the tokens
pub compared_says : (text : List ℕ) (t0 t1 t2 t3 : Token) (op : Comparison) (rest : List Token)
    → t0.kind ≡ kind.Keyword k.Where → t1.kind ≡ kind.Word → t2.kind ≡ kind.Operator op → t3.kind ≡ kind.Number
    → false ≡ (is_some (after_at is_and (lexemes_of text rest)) || is_some (after_at is_or (lexemes_of text rest)))
    → where_at (lexemes_of text (t0 ∷ t1 ∷ t2 ∷ t3 ∷ rest)) ≡ compared_at (said text t1) op (said text t3) (lexemes_of text rest)
unfolding where_at
compared_says text t0 t1 t2 t3 op rest k0 k1 k2 k3 e =
    rw (k0, k1, k2, k3) (compared_is _ op _ (lexemes_of text rest) e)

-- the same, by the tokens' places
pub compared_from : (text : List ℕ) (ts : List Token) (d0 d1 d2 d3 : Token) (op : Comparison) → 4 ≤ length ts
    → (slice_index_or ts 0 d0).kind ≡ kind.Keyword k.Where → (slice_index_or ts 1 d1).kind ≡ kind.Word
    → (slice_index_or ts 2 d2).kind ≡ kind.Operator op → (slice_index_or ts 3 d3).kind ≡ kind.Number
    → false ≡ (is_some (after_at is_and (lexemes_of text (take (length ts - 4) (drop 4 ts)))) || is_some (after_at is_or (lexemes_of text (take (length ts - 4) (drop 4 ts)))))
    → where_at (lexemes_of text ts)
    ≡ compared_at (said text (slice_index_or ts 1 d1)) op (said text (slice_index_or ts 3 d3)) (lexemes_of text (take (length ts - 4) (drop 4 ts)))
compared_from text [] d0 d1 d2 d3 op le k0 k1 k2 k3 e = absurd (omega arith)
compared_from text (t0 ∷ []) d0 d1 d2 d3 op le k0 k1 k2 k3 e = absurd (omega arith)
compared_from text (t0 ∷ t1 ∷ []) d0 d1 d2 d3 op le k0 k1 k2 k3 e = absurd (omega arith)
compared_from text (t0 ∷ t1 ∷ t2 ∷ []) d0 d1 d2 d3 op le k0 k1 k2 k3 e = absurd (omega arith)
compared_from text (t0 ∷ t1 ∷ t2 ∷ t3 ∷ rest) d0 d1 d2 d3 op le k0 k1 k2 k3 e =
    let all : take (length (t0 ∷ t1 ∷ t2 ∷ t3 ∷ rest) - 4) rest ≡ rest = take_all _ rest (omega arith) in
    rw all (compared_says text t0 t1 t2 t3 op rest k0 k1 k2 k3 (rw all at e))
