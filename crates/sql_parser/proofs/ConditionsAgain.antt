-- Conditions of the grammar are read, whatever follows, where that doesn't go on with them: no AND, no OR and no dot.
use Rattle.std.proofs.Common.{◌≡◌, ℕ, zero, suc, Bool, true, false, List, [], ◌∷◌, ◌++◌, Some, None, refl, append_assoc}
use Rattle.sql_lexer.specs.declared.token.Keyword.TheVariants as k
use Rattle.sql_lexer.specs.declared.token.Sign.TheVariants.{RightParenthesis}
use Rattle.sql_lexer.specs.Lexemes.{Lexeme, keyword, sign, operator}
use Rattle.sql_tree.specs.declared.ColumnName.{ColumnName}
use Rattle.sql_tree.specs.declared.Operand.{Operand}
use Rattle.sql_tree.specs.declared.Condition.{Condition}
use Rattle.sql_tree.specs.declared.Condition as c
use Rattle.sql_parser.specs.Grammar.{Lexemes, ReadsOperand, ReadsTest, Joined, OrOf, NotOf, ReadsNot, ReadsOr}
use Rattle.sql_parser.specs.Grammar as g
use Rattle.sql_parser.specs.inner.Reading.{Read, is_and, is_or, after_at, all_follow, close_at, in_at, null_at, is_at, test_at, predicate_at, joined_at, or_of, negation_at, not_at, or_at}
use Rattle.sql_parser.proofs.Again.{all_again}
use Rattle.sql_parser.proofs.LiteralLaws.{NoDot, operand_again, members_again}

module _ (sep : Lexeme → Bool) (word : Lexeme) (is : sep word ≡ true) (node : List (Condition ColumnName) → Condition ColumnName)
    (item : Lexemes → Read (Condition ColumnName)) (Item : Lexemes → Condition ColumnName → Type 0)
    (Ends : Lexemes → Type 0)
    (ends : (ts : Lexemes) → Ends (word ∷ ts))
    (again : (ts : Lexemes) (x : Condition ColumnName) → Item ts x → (rest : Lexemes) → Ends rest → item (ts ++ rest) ≡ Some (x, rest)) where
  pub joined_again : (ts : Lexemes) (x : Condition ColumnName) → Joined word node Item ts x → (rest : Lexemes) → Ends rest → after_at sep rest ≡ None
      → joined_at sep node item (ts ++ rest) ≡ Some (x, rest)
  unfolding joined_at
  joined_again _ _ (g.single {ts} {x} r) rest h none = rw (again ts x r rest h, none) refl
  joined_again _ _ (g.several {ts} {x = x} r (g.item {ts = us} {us = vs} {x = y} {xs = zs} q s)) rest h none =
      let first : item (ts ++ (word ∷ us ++ vs ++ rest)) ≡ Some (x, word ∷ us ++ vs ++ rest) = again ts x r (word ∷ us ++ vs ++ rest) (ends (us ++ vs ++ rest)) in
      let others : all_follow sep item (x ∷ []) (word ∷ us ++ vs ++ rest) ≡ Some (x ∷ y ∷ zs, rest) =
      all_again sep word is item Item Ends ends again x (g.item q s) rest h none in
      rw (append_assoc ts (word ∷ us ++ vs) rest, first, is, others) refl

in_again : (left : Operand ColumnName) (us : Lexemes) (members : _) → g.Bracketed g.ReadsLiteral us members → (rest : Lexemes)
    → in_at left (keyword k.In ∷ us ++ rest) ≡ Some (c.In left members, rest)
unfolding in_at
in_again left us members s rest = rw (members_again us members s rest) refl

-- a test is read the same, whether a NOT may stand in it or not
test_again : (may : Bool) (ts : Lexemes) (x : Condition ColumnName) → ReadsTest ts x → (rest : Lexemes) → NoDot rest → predicate_at may (ts ++ rest) ≡ Some (x, rest)
unfolding predicate_at test_at is_at null_at
test_again may _ _ (g.compare {ts} {us} {left} {right} {op} r s) rest none =
    rw (append_assoc ts (operator op ∷ us) rest, operand_again ts left r (operator op ∷ us ++ rest) refl, operand_again us right s rest none) refl
test_again may _ _ (g.in_list {ts} {us} {left} {members} r s) rest none =
    rw (append_assoc ts (keyword k.In ∷ us) rest, operand_again ts left r (keyword k.In ∷ us ++ rest) refl, in_again left us members s rest) refl
test_again true _ _ (g.is_null {ts} {left} r) rest none =
    rw (append_assoc ts (keyword k.Is ∷ keyword k.Null ∷ []) rest, operand_again ts left r (keyword k.Is ∷ keyword k.Null ∷ rest) refl) refl
test_again may _ _ (g.is_null {ts} {left} r) rest none =
    rw (append_assoc ts (keyword k.Is ∷ keyword k.Null ∷ []) rest, operand_again ts left r (keyword k.Is ∷ keyword k.Null ∷ rest) refl) refl

-- where an AND may end
abbrev pub EndsAnd : Lexemes → Type 0
EndsAnd rest = (after_at is_and rest ≡ None) × NoDot rest

module _ (Deeper : Lexemes → Condition ColumnName → Type 0) (deeper : Lexemes → Read (Condition ColumnName))
    (again : (ts : Lexemes) (x : Condition ColumnName) → Deeper ts x → (rest : Lexemes) → NoDot rest → deeper (ts ++ rest) ≡ Some (x, rest)) where
  or_of_again : (ts : Lexemes) (x : Condition ColumnName) → OrOf Deeper ts x → (rest : Lexemes) → EndsAnd rest → after_at is_or rest ≡ None
      → or_of deeper (ts ++ rest) ≡ Some (x, rest)
  or_of_again =
      joined_again is_or (keyword k.Or) refl c.Or (joined_at is_and c.And deeper) (Joined (keyword k.And) c.And Deeper)
      EndsAnd (λ ts. (refl, refl)) (λ ts x r rest ends. joined_again is_and (keyword k.And) refl c.And deeper Deeper NoDot (λ ts. refl) again ts x r rest ends.1 ends.0)

  -- an operand begins with no NOT and no parenthesis
  begins_plain : (ts : Lexemes) (x : Operand ColumnName) → ReadsOperand ts x → (rest : Lexemes) → negation_at deeper (ts ++ rest) ≡ predicate_at true (ts ++ rest)
  unfolding negation_at
  begins_plain _ _ (g.column (g.bare bytes)) rest = refl
  begins_plain _ _ (g.column (g.qualified table bytes)) rest = refl
  begins_plain _ _ (g.literal g.null) rest = refl
  begins_plain _ _ (g.literal (g.natural n lt)) rest = refl
  begins_plain _ _ (g.literal (g.negative n le)) rest = refl
  begins_plain _ _ (g.literal (g.string bytes)) rest = refl

  -- the same of what comes after it
  plain : (ts us : Lexemes) (x : Operand ColumnName) → ReadsOperand ts x → (rest : Lexemes) → negation_at deeper ((ts ++ us) ++ rest) ≡ predicate_at true ((ts ++ us) ++ rest)
  plain ts us x r rest = rw (append_assoc ts us rest) (begins_plain ts x r (us ++ rest))

  negation_again : (ts : Lexemes) (x : Condition ColumnName) → NotOf Deeper ts x → (rest : Lexemes) → NoDot rest → negation_at deeper (ts ++ rest) ≡ Some (x, rest)
  unfolding negation_at predicate_at test_at is_at null_at close_at
  negation_again _ _ (g.test (g.compare {ts} {us} {left} {right} {op} r s)) rest none =
      rw (plain ts (operator op ∷ us) left r rest) (test_again true _ _ (g.compare r s) rest none)
  negation_again _ _ (g.test (g.in_list {ts} {us} {left} {members} r s)) rest none =
      rw (plain ts (keyword k.In ∷ us) left r rest) (test_again true _ _ (g.in_list r s) rest none)
  negation_again _ _ (g.test (g.is_null {ts} {left} r)) rest none =
      rw (plain ts (keyword k.Is ∷ keyword k.Null ∷ []) left r rest) (test_again true _ _ (g.is_null r) rest none)
  negation_again _ _ (g.negated {ts} {x} r) rest none = rw (again ts x r rest none) refl
  negation_again _ _ (g.not_in {ts} {us} {left} {members} r s) rest none =
      rw (
        append_assoc ts (keyword k.Not ∷ keyword k.In ∷ us) rest,
        begins_plain ts left r (keyword k.Not ∷ keyword k.In ∷ us ++ rest),
        operand_again ts left r (keyword k.Not ∷ keyword k.In ∷ us ++ rest) refl,
        in_again left us members s rest,
      ) refl
  negation_again _ _ (g.is_not_null {ts} {left} r) rest none =
      rw (
        append_assoc ts (keyword k.Is ∷ keyword k.Not ∷ keyword k.Null ∷ []) rest,
        begins_plain ts left r (keyword k.Is ∷ keyword k.Not ∷ keyword k.Null ∷ rest),
        operand_again ts left r (keyword k.Is ∷ keyword k.Not ∷ keyword k.Null ∷ rest) refl,
      ) refl
  negation_again _ _ (g.parentheses {ts} {x} r) rest none =
      rw (append_assoc ts (sign RightParenthesis ∷ []) rest, or_of_again ts x r (sign RightParenthesis ∷ rest) (refl, refl) refl) refl

pub not_again : (depth : ℕ) (ts : Lexemes) (x : Condition ColumnName) → ReadsNot depth ts x → (rest : Lexemes) → NoDot rest → not_at depth (ts ++ rest) ≡ Some (x, rest)
unfolding not_at
not_again zero ts x r rest none = test_again false ts x r rest none
not_again (suc depth) ts x r rest none = negation_again (ReadsNot depth) (not_at depth) (not_again depth) ts x r rest none

pub or_again : (depth : ℕ) (ts : Lexemes) (x : Condition ColumnName) → ReadsOr depth ts x → (rest : Lexemes) → EndsAnd rest → after_at is_or rest ≡ None
    → or_at depth (ts ++ rest) ≡ Some (x, rest)
or_again depth = or_of_again (ReadsNot depth) (not_at depth) (not_again depth)
