-- What is read of a condition is in the grammar.
use Rattle.std.proofs.Common.{◌≡◌, ℕ, zero, suc, Bool, true, false, cond, List, [], ◌∷◌, ◌++◌, Some, is_some, refl, sym, ap, subst, ◌∙◌}
use Rattle.sql_lexer.specs.declared.token.Keyword.TheVariants as k
use Rattle.sql_lexer.specs.declared.token.Sign.TheVariants.{LeftParenthesis, RightParenthesis}
use Rattle.sql_lexer.specs.Lexemes.{Lexeme, keyword, sign, operator}
use Rattle.sql_lexer.specs.inner.Results.{◌>>=◌}
use Rattle.sql_lexer.proofs.Options.{some_is, bound}
use Rattle.sql_tree.specs.declared.ColumnName.{ColumnName}
use Rattle.sql_tree.specs.declared.Operand.{Operand}
use Rattle.sql_tree.specs.declared.Condition.{Condition}
use Rattle.sql_tree.specs.declared.Condition as c
use Rattle.sql_parser.specs.Grammar.{Lexemes, Follows, ReadsOperand, ReadsTest, Joined, OrOf, NotOf, ReadsNot, ReadsOr}
use Rattle.sql_parser.specs.inner.Reading.{ReadsAnd}
use Rattle.sql_parser.specs.Grammar as g
use Rattle.sql_parser.specs.inner.Reading.{Read, is_and, is_or, after_at, all_follow, operand_at, in_at, null_at, is_at, test_at, predicate_at, joined_at, or_of, negation_at, not_at, and_at, or_at}
use Rattle.sql_parser.proofs.Sound.{Front, glue, all_sound}
use Rattle.sql_parser.proofs.LiteralLaws.{close_is, operand_sound, members_sound}

pub and_only : (t : Lexeme) → is_and t ≡ true → t ≡ keyword k.And
and_only (keyword k.And) e = refl
and_only _ e = absurd cc

pub or_only : (t : Lexeme) → is_or t ≡ true → t ≡ keyword k.Or
or_only (keyword k.Or) e = refl
or_only _ e = absurd cc

-- ---- items with AND or OR between them

module _ (sep : Lexeme → Bool) (word : Lexeme) (only : (t : Lexeme) → sep t ≡ true → t ≡ word) (node : List (Condition ColumnName) → Condition ColumnName)
    (item : Lexemes → Read (Condition ColumnName)) (Item : Lexemes → Condition ColumnName → Type 0)
    (sound : (ts : Lexemes) (x : Condition ColumnName × Lexemes) → item ts ≡ Some x → Front Item ts x) where
  several_sound : (ts : Lexemes) (y : Condition ColumnName × Lexemes) (x : Condition ColumnName × Lexemes) (f : Front Item ts y) → is_some (after_at sep y.1) ≡ true
      → (all_follow sep item (y.0 ∷ []) y.1 >>= λ xs. Some (node xs.0, xs.1)) ≡ Some x → Front (Joined word node Item) ts x
  several_sound ts y x f is e =
      bound _ _ _ e (λ ys p e1.
      let s = all_sound sep word only item Item sound y.0 y.1 ys p in
      go ys s.0 s.1 s.2 (s.3 is) (some_is _ x e1))
    where
      go : (ys : List (Condition ColumnName) × Lexemes) (xs : List (Condition ColumnName)) → ys.0 ≡ y.0 ∷ xs → Front (Follows word Item) y.1 (xs, ys.1) → (xs ≡ [] → ⊥)
          → (node ys.0, ys.1) ≡ x → Front (Joined word node Item) ts x
      go ys [] e h not same = absurd (not refl)
      go ys (z ∷ zs) e h not same =
          subst (Front (Joined word node Item) ts) (ap (λ (cs : List (Condition ColumnName)). (node cs, ys.1)) (sym e) ∙ same)
          (record { front = f.front ++ h.front; parts = glue ts f.front y.1 h.front ys.1 f.parts h.parts; reads = g.several f.reads h.reads })

  pub joined_sound : (ts : Lexemes) (x : Condition ColumnName × Lexemes) → joined_at sep node item ts ≡ Some x → Front (Joined word node Item) ts x
  unfolding joined_at
  joined_sound ts x e = bound _ _ _ e (λ y p e1. go y (sound ts y p) (is_some (after_at sep y.1)) refl e1)
    where
      go : (y : Condition ColumnName × Lexemes) → Front Item ts y → (b : Bool) → is_some (after_at sep y.1) ≡ b
          → cond b (all_follow sep item (y.0 ∷ []) y.1 >>= λ xs. Some (node xs.0, xs.1)) (Some y) ≡ Some x → Front (Joined word node Item) ts x
      go y f false is e =
          subst (Front (Joined word node Item) ts) (some_is y x e) (record { front = f.front; parts = f.parts; reads = g.single f.reads })
      go y f true is e = several_sound ts y x f is e

-- ---- what comes after an operand

-- Whatever tokens the operand has, they and these are read as the condition.
abbrev AfterClause : (Lexemes → Condition ColumnName → Type 0) → Operand ColumnName → Lexemes → Condition ColumnName → Type 0
AfterClause Reads left us x = (ls : Lexemes) → ReadsOperand ls left → Reads (ls ++ us) x

-- the same after an IS
abbrev AfterIs : (Lexemes → Condition ColumnName → Type 0) → Operand ColumnName → Lexemes → Condition ColumnName → Type 0
AfterIs Reads left us x = (ls : Lexemes) → ReadsOperand ls left → Reads (ls ++ keyword k.Is ∷ us) x

module _ (Deeper : Lexemes → Condition ColumnName → Type 0) where
  -- what a predicate reads where a NOT may stand, and where not
  abbrev Predicate : Bool → Lexemes → Condition ColumnName → Type 0
  Predicate false = ReadsTest
  Predicate true = NotOf Deeper

  lift : (may : Bool) {ts : Lexemes} {x : Condition ColumnName} → ReadsTest ts x → Predicate may ts x
  lift false r = r
  lift true r = g.test r

  in_sound : (may : Bool) (left : Operand ColumnName) (ts : Lexemes) (x : Condition ColumnName × Lexemes) → in_at left ts ≡ Some x → Front (AfterClause (Predicate may) left) ts x
  unfolding in_at
  in_sound may left (keyword k.In ∷ ts) x e =
      bound _ _ _ e (λ ms p e1.
      let f = members_sound ts ms p in
      subst (Front (AfterClause (Predicate may) left) (keyword k.In ∷ ts)) (some_is _ x e1) (record {
        front = keyword k.In ∷ f.front;
        parts = ap (λ (us : Lexemes). keyword k.In ∷ us) f.parts;
        reads = λ ls r. lift may (g.in_list r f.reads);
      }))
  in_sound may left _ x e = absurd cc

  not_in_sound : (left : Operand ColumnName) (ts : Lexemes) (x : Condition ColumnName × Lexemes) → (in_at left ts >>= λ y. Some (c.Not y.0, y.1)) ≡ Some x
      → Front (AfterClause (NotOf Deeper) left) (keyword k.Not ∷ ts) x
  unfolding in_at
  not_in_sound left (keyword k.In ∷ ts) x e =
      bound _ _ _ e (λ y q e2. bound _ _ _ q (λ ms p e1.
      let f = members_sound ts ms p in
      let same = ap (λ (z : Condition ColumnName × Lexemes). (c.Not z.0, z.1)) (some_is _ y e1) ∙ some_is _ x e2 in
      subst (Front (AfterClause (NotOf Deeper) left) (keyword k.Not ∷ keyword k.In ∷ ts)) same (record {
        front = keyword k.Not ∷ keyword k.In ∷ f.front;
        parts = ap (λ (us : Lexemes). keyword k.Not ∷ keyword k.In ∷ us) f.parts;
        reads = λ ls r. g.not_in r f.reads;
      })))
  not_in_sound left _ x e = absurd cc

  null_sound : (may : Bool) (left : Operand ColumnName) (ts : Lexemes) (x : Condition ColumnName × Lexemes) → null_at left ts ≡ Some x
      → Front (AfterIs (Predicate may) left) ts x
  unfolding null_at
  null_sound may left (keyword k.Null ∷ ts) x e =
      subst (Front (AfterIs (Predicate may) left) (keyword k.Null ∷ ts)) (some_is (c.IsNull left, ts) x e)
      (record { front = keyword k.Null ∷ []; parts = refl; reads = λ ls r. lift may (g.is_null r) })
  null_sound may left _ x e = absurd cc

  is_sound : (may : Bool) (left : Operand ColumnName) (ts : Lexemes) (x : Condition ColumnName × Lexemes) → is_at may left ts ≡ Some x
      → Front (AfterIs (Predicate may) left) ts x
  unfolding is_at null_at
  is_sound true left (keyword k.Not ∷ keyword k.Null ∷ ts) x e =
      subst (Front (AfterIs (NotOf Deeper) left) (keyword k.Not ∷ keyword k.Null ∷ ts)) (some_is (c.Not (c.IsNull left), ts) x e)
      (record { front = keyword k.Not ∷ keyword k.Null ∷ []; parts = refl; reads = λ ls r. g.is_not_null r })
  is_sound true left (keyword k.Not ∷ _) x e = absurd cc
  is_sound may left ts x e = null_sound may left ts x e

  past_is : (may : Bool) (left : Operand ColumnName) (ts : Lexemes) (x : Condition ColumnName × Lexemes) → Front (AfterIs (Predicate may) left) ts x
      → Front (AfterClause (Predicate may) left) (keyword k.Is ∷ ts) x
  past_is may left ts x f = record { front = keyword k.Is ∷ f.front; parts = ap (λ (us : Lexemes). keyword k.Is ∷ us) f.parts; reads = f.reads }

  compare_sound : (may : Bool) (left : Operand ColumnName) (op : _) (ts : Lexemes) (x : Condition ColumnName × Lexemes)
      → (operand_at ts >>= λ right. Some (c.Compare op left right.0, right.1)) ≡ Some x → Front (AfterClause (Predicate may) left) (operator op ∷ ts) x
  compare_sound may left op ts x e =
      bound _ _ _ e (λ right p e1.
      let f = operand_sound ts right p in
      subst (Front (AfterClause (Predicate may) left) (operator op ∷ ts)) (some_is _ x e1) (record {
        front = operator op ∷ f.front;
        parts = ap (λ (us : Lexemes). operator op ∷ us) f.parts;
        reads = λ ls r. lift may (g.compare r f.reads);
      }))

  test_sound : (may : Bool) (left : Operand ColumnName) (ts : Lexemes) (x : Condition ColumnName × Lexemes) → test_at may left ts ≡ Some x
      → Front (AfterClause (Predicate may) left) ts x
  unfolding test_at
  test_sound may left (operator op ∷ ts) x e = compare_sound may left op ts x e
  test_sound may left (keyword k.Is ∷ ts) x e = past_is may left ts x (is_sound may left ts x e)
  test_sound true left (keyword k.Not ∷ ts) x e = not_in_sound left ts x e
  test_sound may left ts x e = in_sound may left ts x e

  predicate_sound : (may : Bool) (ts : Lexemes) (x : Condition ColumnName × Lexemes) → predicate_at may ts ≡ Some x → Front (Predicate may) ts x
  unfolding predicate_at
  predicate_sound may ts x e =
      bound _ _ _ e (λ y p e1.
      let f = operand_sound ts y p in
      let h = test_sound may y.0 y.1 x e1 in
      record { front = f.front ++ h.front; parts = glue ts f.front y.1 h.front x.1 f.parts h.parts; reads = h.reads f.front f.reads })

-- ---- conditions by their depth

module _ (Deeper : Lexemes → Condition ColumnName → Type 0) (deeper : Lexemes → Read (Condition ColumnName))
    (sound : (ts : Lexemes) (x : Condition ColumnName × Lexemes) → deeper ts ≡ Some x → Front Deeper ts x) where
  or_of_sound : (ts : Lexemes) (x : Condition ColumnName × Lexemes) → or_of deeper ts ≡ Some x → Front (OrOf Deeper) ts x
  or_of_sound =
      joined_sound is_or (keyword k.Or) or_only c.Or (joined_at is_and c.And deeper) (Joined (keyword k.And) c.And Deeper)
      (joined_sound is_and (keyword k.And) and_only c.And deeper Deeper sound)

  negation_sound : (ts : Lexemes) (x : Condition ColumnName × Lexemes) → negation_at deeper ts ≡ Some x → Front (NotOf Deeper) ts x
  unfolding negation_at
  negation_sound (keyword k.Not ∷ ts) x e =
      bound _ _ _ e (λ y p e1.
      let f = sound ts y p in
      subst (Front (NotOf Deeper) (keyword k.Not ∷ ts)) (some_is _ x e1)
      (record { front = keyword k.Not ∷ f.front; parts = ap (λ (us : Lexemes). keyword k.Not ∷ us) f.parts; reads = g.negated f.reads }))
  negation_sound (sign LeftParenthesis ∷ ts) x e =
      bound _ _ _ e (λ y p e1. bound _ _ _ e1 (λ rest q e2.
      let f = or_of_sound ts y p in
      let tail : y.1 ≡ (sign RightParenthesis ∷ []) ++ rest = close_is y.1 rest q in
      let parts = glue ts f.front y.1 (sign RightParenthesis ∷ []) rest f.parts tail in
      subst (Front (NotOf Deeper) (sign LeftParenthesis ∷ ts)) (some_is _ x e2) (record {
        front = sign LeftParenthesis ∷ f.front ++ sign RightParenthesis ∷ [];
        parts = ap (λ (us : Lexemes). sign LeftParenthesis ∷ us) parts;
        reads = g.parentheses f.reads;
      })))
  negation_sound ts x e = predicate_sound Deeper true ts x e

pub not_sound : (depth : ℕ) (ts : Lexemes) (x : Condition ColumnName × Lexemes) → not_at depth ts ≡ Some x → Front (ReadsNot depth) ts x
unfolding not_at
not_sound zero = predicate_sound ReadsTest false
not_sound (suc depth) = negation_sound (ReadsNot depth) (not_at depth) (not_sound depth)

pub and_sound : (depth : ℕ) (ts : Lexemes) (x : Condition ColumnName × Lexemes) → and_at depth ts ≡ Some x → Front (ReadsAnd depth) ts x
and_sound depth = joined_sound is_and (keyword k.And) and_only c.And (not_at depth) (ReadsNot depth) (not_sound depth)

pub or_sound : (depth : ℕ) (ts : Lexemes) (x : Condition ColumnName × Lexemes) → or_at depth ts ≡ Some x → Front (ReadsOr depth) ts x
or_sound depth = or_of_sound (ReadsNot depth) (not_at depth) (not_sound depth)
