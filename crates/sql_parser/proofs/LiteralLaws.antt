-- The two laws for names, columns, literals and operands: what is read is in the grammar, and what is in the grammar is read, whatever follows. After a
-- column that may be anything but a dot.
use Rattle.std.proofs.Common.{◌≡◌, ℕ, ◌<◌, ◌≤◌, ◌^◌, List, [], ◌∷◌, ◌++◌, Some, refl, ap, subst, ◌∙◌, append_assoc, pos, None, arith}
use Rattle.std.specs.Prelude.{neg_ℤ}
use Rattle.std.proofs.lemmas.Bool.{leb-true, le-leb}
use Rattle.vt_value.specs.declared.value.Value.{Value}
use Rattle.vt_value.specs.declared.value.Value.TheVariants.{Null, Int, Bytes}
use Rattle.sql_lexer.specs.declared.token.Keyword.TheVariants as k
use Rattle.sql_lexer.specs.declared.token.Sign.TheVariants.{LeftParenthesis, RightParenthesis, Minus, Dot}
use Rattle.sql_lexer.specs.Lexemes.{keyword, identifier, number, text, sign}
use Rattle.sql_lexer.specs.inner.Results.{◌>>=◌}
use Rattle.sql_lexer.proofs.Options.{some_is, bound, guard_some}
use Rattle.sql_tree.specs.declared.ColumnName.{ColumnName}
use Rattle.sql_tree.specs.declared.Operand.{Operand}
use Rattle.sql_tree.specs.declared.Operand.TheVariants.{Column, Literal}
use Rattle.sql_tree.specs.Literals.{Name}
use Rattle.sql_parser.specs.Grammar.{Lexemes, Listed, Bracketed, ReadsName, ReadsColumn, ReadsLiteral, ReadsOperand}
use Rattle.sql_parser.specs.Grammar as g
use Rattle.sql_parser.specs.inner.Reading.{Read, after_at, listed_at, name_at, is_dot, after_name_at, column_at, number_at, close_at, open_at, natural_at, negative_at, literal_at, operand_at, bracketed_at, members_at}
use Rattle.sql_parser.proofs.Digits.{fits, fitting_is}
use Rattle.sql_parser.proofs.Sound.{Front, glue, listed_sound}
use Rattle.sql_parser.proofs.Again.{listed_again}

-- ---- what is read is in the grammar

pub name_is : (ts : Lexemes) (x : Name × Lexemes) → name_at ts ≡ Some x → ts ≡ identifier x.0 ∷ x.1
unfolding name_at
name_is (identifier bytes ∷ ts) x e = ap (λ (y : Name × Lexemes). identifier y.0 ∷ y.1) (some_is (bytes, ts) x e)
name_is _ x e = absurd cc

pub name_sound : (ts : Lexemes) (x : Name × Lexemes) → name_at ts ≡ Some x → Front ReadsName ts x
name_sound ts x e = record { front = identifier x.0 ∷ []; parts = name_is ts x e; reads = g.name x.0 }

pub number_is : (ts : Lexemes) (x : ℕ × Lexemes) → number_at ts ≡ Some x → (x.0 < 2 ^ 64) × (ts ≡ number x.0 ∷ x.1)
unfolding number_at
number_is (number n ∷ ts) x e =
    bound _ _ _ e (λ m p e1.
    let f = fitting_is n m p in
    let same : (m, ts) ≡ x = some_is _ x e1 in
    (subst (λ i. i < 2 ^ 64) (ap (λ (y : ℕ × Lexemes). y.0) same) f.0, ap (λ i. number i ∷ ts) f.1 ∙ ap (λ (y : ℕ × Lexemes). number y.0 ∷ y.1) same))
number_is _ x e = absurd cc

pub close_is : (ts rest : Lexemes) → close_at ts ≡ Some rest → ts ≡ sign RightParenthesis ∷ rest
unfolding close_at
close_is (sign RightParenthesis ∷ ts) rest e = ap (λ (us : Lexemes). sign RightParenthesis ∷ us) (some_is ts rest e)
close_is _ rest e = absurd cc

pub open_is : (ts rest : Lexemes) → open_at ts ≡ Some rest → ts ≡ sign LeftParenthesis ∷ rest
unfolding open_at
open_is (sign LeftParenthesis ∷ ts) rest e = ap (λ (us : Lexemes). sign LeftParenthesis ∷ us) (some_is ts rest e)
open_is _ rest e = absurd cc

natural_sound : (ts : Lexemes) (x : Value × Lexemes) → natural_at ts ≡ Some x → Front ReadsLiteral ts x
unfolding natural_at
natural_sound ts x e =
    bound _ _ _ e (λ n p e1.
    let size = number_is ts n p in
    subst (Front ReadsLiteral ts) (some_is _ x e1) (record { front = number n.0 ∷ []; parts = size.1; reads = g.natural n.0 size.0 }))

negative_sound : (ts : Lexemes) (x : Value × Lexemes) → negative_at ts ≡ Some x → Front ReadsLiteral (sign Minus ∷ ts) x
unfolding negative_at
negative_sound ts x e =
    bound _ _ _ e (λ n p e1.
    let size = number_is ts n p in
    let b = guard_some _ _ x e1 in
    subst (Front ReadsLiteral (sign Minus ∷ ts)) b.1 (record {
      front = sign Minus ∷ number n.0 ∷ [];
      parts = ap (λ (us : Lexemes). sign Minus ∷ us) size.1;
      reads = g.negative n.0 (leb-true _ _ b.0);
    }))

pub literal_sound : (ts : Lexemes) (x : Value × Lexemes) → literal_at ts ≡ Some x → Front ReadsLiteral ts x
unfolding literal_at
literal_sound (keyword k.Null ∷ ts) x e =
    subst (Front ReadsLiteral (keyword k.Null ∷ ts)) (some_is (Null, ts) x e) (record { front = keyword k.Null ∷ []; parts = refl; reads = g.null })
literal_sound (sign Minus ∷ ts) x e = negative_sound ts x e
literal_sound (text bytes ∷ ts) x e =
    subst (Front ReadsLiteral (text bytes ∷ ts)) (some_is (Bytes bytes, ts) x e) (record { front = text bytes ∷ []; parts = refl; reads = g.string bytes })
literal_sound ts x e = natural_sound ts x e

literal_operand : (ts : Lexemes) (x : Operand ColumnName × Lexemes) → (literal_at ts >>= λ v. Some (Literal v.0, v.1)) ≡ Some x → Front ReadsOperand ts x
literal_operand ts x e =
    bound _ _ _ e (λ v p e1.
    let f = literal_sound ts v p in
    subst (Front ReadsOperand ts) (some_is _ x e1) (record { front = f.front; parts = f.parts; reads = g.literal f.reads }))

-- a name, and after a dot the one that it qualifies
pub after_name_sound : (bytes : Name) (ts : Lexemes) (x : ColumnName × Lexemes) → after_name_at bytes ts ≡ Some x → Front ReadsColumn (identifier bytes ∷ ts) x
unfolding after_name_at
after_name_sound bytes (sign Dot ∷ ts) x e =
    bound _ _ _ e (λ name p e1.
    subst (Front ReadsColumn (identifier bytes ∷ sign Dot ∷ ts)) (some_is _ x e1) (record {
      front = identifier bytes ∷ sign Dot ∷ identifier name.0 ∷ [];
      parts = ap (λ (us : Lexemes). identifier bytes ∷ sign Dot ∷ us) (name_is ts name p);
      reads = g.qualified bytes name.0;
    }))
after_name_sound bytes ts x e =
    subst (Front ReadsColumn (identifier bytes ∷ ts)) (some_is _ x e) (record { front = identifier bytes ∷ []; parts = refl; reads = g.bare bytes })

pub column_sound : (ts : Lexemes) (x : ColumnName × Lexemes) → column_at ts ≡ Some x → Front ReadsColumn ts x
unfolding column_at
column_sound ts x e =
    bound _ _ _ e (λ name p e1.
    let f = after_name_sound name.0 name.1 x e1 in
    record { front = f.front; parts = name_is ts name p ∙ f.parts; reads = f.reads })

column_operand : (bytes : Name) (ts : Lexemes) (x : Operand ColumnName × Lexemes) → (after_name_at bytes ts >>= λ c. Some (Column c.0, c.1)) ≡ Some x
    → Front ReadsOperand (identifier bytes ∷ ts) x
column_operand bytes ts x e =
    bound _ _ _ e (λ c p e1.
    let f = after_name_sound bytes ts c p in
    subst (Front ReadsOperand (identifier bytes ∷ ts)) (some_is _ x e1) (record { front = f.front; parts = f.parts; reads = g.column f.reads }))

pub operand_sound : (ts : Lexemes) (x : Operand ColumnName × Lexemes) → operand_at ts ≡ Some x → Front ReadsOperand ts x
unfolding operand_at
operand_sound [] x e = absurd cc
operand_sound (identifier bytes ∷ ts) x e = column_operand bytes ts x e
operand_sound ts x e = literal_operand ts x e

-- (x,..)
module _ {A : Type 0} (item : Lexemes → Read A) (Item : Lexemes → A → Type 0)
    (sound : (ts : Lexemes) (x : A × Lexemes) → item ts ≡ Some x → Front Item ts x) where
  pub bracketed_sound : (ts : Lexemes) (x : List A × Lexemes) → bracketed_at item ts ≡ Some x → Front (Bracketed Item) ts x
  unfolding bracketed_at
  bracketed_sound ts x e =
      bound _ _ _ e (λ inside p e1. bound _ _ _ e1 (λ xs q e2. bound _ _ _ e2 (λ rest r e3.
      let f = listed_sound item Item sound inside xs q in
      let tail : xs.1 ≡ (sign RightParenthesis ∷ []) ++ rest = close_is xs.1 rest r in
      let parts = glue inside f.front xs.1 (sign RightParenthesis ∷ []) rest f.parts tail in
      subst (Front (Bracketed Item) ts) (some_is _ x e3) (record {
        front = sign LeftParenthesis ∷ f.front ++ sign RightParenthesis ∷ [];
        parts = open_is ts inside p ∙ ap (λ (us : Lexemes). sign LeftParenthesis ∷ us) parts;
        reads = g.brackets f.reads;
      }))))

pub members_sound : (ts : Lexemes) (x : List Value × Lexemes) → members_at ts ≡ Some x → Front (Bracketed ReadsLiteral) ts x
members_sound = bracketed_sound literal_at ReadsLiteral literal_sound

-- ---- what is in the grammar is read

pub name_again : (ts : Lexemes) (x : Name) → ReadsName ts x → (rest : Lexemes) → name_at (ts ++ rest) ≡ Some (x, rest)
unfolding name_at
name_again _ _ (g.name bytes) rest = refl

pub number_again : (n : ℕ) → n < 2 ^ 64 → (rest : Lexemes) → number_at (number n ∷ rest) ≡ Some (n, rest)
unfolding number_at
number_again n lt rest = rw (fits n lt) refl

natural_again : (n : ℕ) → n < 2 ^ 64 → (rest : Lexemes) → natural_at (number n ∷ rest) ≡ Some (Int (pos n), rest)
unfolding natural_at
natural_again n lt rest = rw (number_again n lt rest) refl

negative_again : (n : ℕ) → n ≤ 2 ^ 63 → (rest : Lexemes) → negative_at (number n ∷ rest) ≡ Some (Int (neg_ℤ (pos n)), rest)
unfolding negative_at
negative_again n le rest = rw (number_again n (omega arith) rest, le-leb n (2 ^ 63) le) refl

pub literal_again : (ts : Lexemes) (x : Value) → ReadsLiteral ts x → (rest : Lexemes) → literal_at (ts ++ rest) ≡ Some (x, rest)
unfolding literal_at
literal_again _ _ g.null rest = refl
literal_again _ _ (g.natural n lt) rest = natural_again n lt rest
literal_again _ _ (g.negative n le) rest = negative_again n le rest
literal_again _ _ (g.string bytes) rest = refl

-- no dot stands there
abbrev pub NoDot : Lexemes → Type 0
NoDot rest = after_at is_dot rest ≡ None

pub after_name_again : (bytes : Name) (rest : Lexemes) → NoDot rest → after_name_at bytes rest ≡ Some (record { table = None; name = bytes }, rest)
unfolding after_name_at
after_name_again bytes [] none = refl
after_name_again bytes (sign Dot ∷ rest) none = absurd cc
after_name_again bytes (t ∷ rest) none = refl

qualified_again : (table bytes : Name) (rest : Lexemes)
    → after_name_at table (sign Dot ∷ identifier bytes ∷ rest) ≡ Some (record { table = Some table; name = bytes }, rest)
unfolding after_name_at name_at
qualified_again table bytes rest = refl

pub column_again : (ts : Lexemes) (x : ColumnName) → ReadsColumn ts x → (rest : Lexemes) → NoDot rest → column_at (ts ++ rest) ≡ Some (x, rest)
unfolding column_at name_at
column_again _ _ (g.bare bytes) rest none = after_name_again bytes rest none
column_again _ _ (g.qualified table bytes) rest none = qualified_again table bytes rest

pub operand_again : (ts : Lexemes) (x : Operand ColumnName) → ReadsOperand ts x → (rest : Lexemes) → NoDot rest → operand_at (ts ++ rest) ≡ Some (x, rest)
unfolding operand_at
operand_again _ _ (g.column (g.bare bytes)) rest none = rw (after_name_again bytes rest none) refl
operand_again _ _ (g.column (g.qualified table bytes)) rest none = rw (qualified_again table bytes rest) refl
operand_again _ _ (g.literal g.null) rest none = rw (literal_again _ _ g.null rest) refl
operand_again _ _ (g.literal (g.natural n lt)) rest none = rw (literal_again _ _ (g.natural n lt) rest) refl
operand_again _ _ (g.literal (g.negative n le)) rest none = rw (literal_again _ _ (g.negative n le) rest) refl
operand_again _ _ (g.literal (g.string bytes)) rest none = rw (literal_again _ _ (g.string bytes) rest) refl

-- (x,..), of items that are read whatever follows
module _ {A : Type 0} (item : Lexemes → Read A) (Item : Lexemes → A → Type 0)
    (again : (ts : Lexemes) (x : A) → Item ts x → (rest : Lexemes) → item (ts ++ rest) ≡ Some (x, rest)) where
  pub bracketed_again : (ts : Lexemes) (xs : List A) → Bracketed Item ts xs → (rest : Lexemes) → bracketed_at item (ts ++ rest) ≡ Some (xs, rest)
  unfolding bracketed_at open_at close_at
  bracketed_again _ _ (g.brackets {ts} {xs} r) rest =
      let inside : listed_at item (ts ++ sign RightParenthesis ∷ rest) ≡ Some (xs, sign RightParenthesis ∷ rest) =
      listed_again item Item (λ _. Unit {0}) (λ _. tt) (λ us y q rest h. again us y q rest) ts xs r (sign RightParenthesis ∷ rest) tt refl in
      rw (append_assoc ts (sign RightParenthesis ∷ []) rest, inside) refl

pub members_again : (ts : Lexemes) (xs : List Value) → Bracketed ReadsLiteral ts xs → (rest : Lexemes) → members_at (ts ++ rest) ≡ Some (xs, rest)
members_again = bracketed_again literal_at ReadsLiteral literal_again
