-- Texts and their trees.
use Rattle.std.proofs.Common.{◌≡◌, rules, ℕ, true, false, List, [], ◌∷◌, refl, Some, None, pos, lit<, lit≤}
use Rattle.std.specs.Prelude.{codes}
use Rattle.vt_value.specs.declared.value.Value.TheVariants.{Int}
use Rattle.vt_value.specs.declared.value.Comparison.TheVariants.{Eq}
use Rattle.sql_lexer.specs.declared.token.Token.{Token}
use Rattle.sql_lexer.specs.declared.token.TokenKind.{TokenKind}
use Rattle.sql_lexer.specs.declared.token.TokenKind.TheVariants as kind
use Rattle.sql_lexer.specs.declared.token.Keyword.TheVariants as k
use Rattle.sql_lexer.specs.declared.token.Sign.TheVariants.{Star, Dot}
use Rattle.sql_lexer.specs.Lexemes as s
use Rattle.sql_lexer.specs.Tokens.{Lexes}
use Rattle.sql_lexer.specs.Tokens as t
use Rattle.sql_tree.specs.declared.ColumnName.{ColumnName}
use Rattle.sql_tree.specs.declared.Operand.TheVariants.{Column, Literal}
use Rattle.sql_tree.specs.declared.Condition.{Compare, IsNull, the_lemmas}
use Rattle.sql_tree.specs.declared.SelectList.TheVariants.{All}
use Rattle.sql_tree.specs.declared.Statement.{Statement}
use Rattle.sql_tree.specs.declared.Statement.TheVariants.{Select, Delete}
use Rattle.sql_tree.specs.Literals.{Name, literals_of}
use Rattle.sql_parser.specs.Qualifiers.{qualifies_outside_select}
use Rattle.sql_parser.specs.Grammar as g
use Rattle.sql_parser.specs.Grammar.{Reads}

abbrev token : TokenKind → ℕ → ℕ → Token
token kind start end = record { kind = kind; start = start; end = end }

abbrev bare : Name → ColumnName
bare name = record { table = None; name = name }

abbrev of_table : Name → Name → ColumnName
of_table table name = record { table = Some table; name = name }

abbrev by_id : Statement
by_id = Select (record {
  list = All;
  table = codes "t";
  join = None;
  filter = Some (Compare Eq (Column (bare (codes "id"))) (Literal (Int (pos 5))));
  group_by = [];
  order_by = [];
  limit = None;
})

abbrev tokens : List Token
tokens =
    token (kind.Keyword k.Select) 0 6 ∷ token (kind.Sign Star) 7 8 ∷ token (kind.Keyword k.From) 9 13 ∷ token kind.Word 14 15
    ∷ token (kind.Keyword k.Where) 16 21 ∷ token kind.Word 22 24 ∷ token (kind.Operator Eq) 25 26 ∷ token kind.Number 27 28 ∷ []

abbrev a_text : List ℕ
a_text = codes "SELECT * FROM t WHERE id = 5"

lexed : Lexes a_text tokens
lexed =
    t.token {bytes = codes "SELECT"} (s.keyword_word k.Select refl) refl (t.blank refl
    (t.token {bytes = codes "*"} (s.mark Star) refl (t.blank refl
    (t.token {bytes = codes "FROM"} (s.keyword_word k.From refl) refl (t.blank refl
    (t.token {bytes = codes "t"} (s.word refl refl) refl (t.blank refl
    (t.token {bytes = codes "WHERE"} (s.keyword_word k.Where refl) refl (t.blank refl
    (t.token {bytes = codes "id"} (s.word refl refl) refl (t.blank refl
    (t.token {bytes = codes "="} (s.comparison Eq) refl (t.blank refl
    (t.token {bytes = codes "5"} (s.digits refl refl) refl t.end))))))))))))))

one_literal : literals_of by_id ≡ 1
one_literal = search (rules, the_lemmas)

read : Reads a_text by_id
read = (
  tokens,
  lexed,
  g.statement (g.select_is (g.select g.star g.absent (g.present (g.filter (g.single (g.single (g.test
      (g.compare (g.column (g.bare (codes "id"))) (g.literal (g.natural 5 (lit< tt))))))))) g.without g.without g.absent)),
  rw one_literal (lit≤ tt),
  refl,
)

-- ---- two tables

abbrev of_both : Statement
of_both = Select (record {
  list = All;
  table = codes "t";
  join = Some (record { table = codes "u"; left = of_table (codes "t") (codes "k"); right = bare (codes "id") });
  filter = None;
  group_by = [];
  order_by = [];
  limit = None;
})

abbrev join_tokens : List Token
join_tokens =
    token (kind.Keyword k.Select) 0 6 ∷ token (kind.Sign Star) 7 8 ∷ token (kind.Keyword k.From) 9 13 ∷ token kind.Word 14 15
    ∷ token (kind.Keyword k.Inner) 16 21 ∷ token (kind.Keyword k.Join) 22 26 ∷ token kind.Word 27 28 ∷ token (kind.Keyword k.On) 29 31
    ∷ token kind.Word 32 33 ∷ token (kind.Sign Dot) 33 34 ∷ token kind.Word 34 35 ∷ token (kind.Operator Eq) 36 37 ∷ token kind.Word 38 40 ∷ []

abbrev a_join : List ℕ
a_join = codes "SELECT * FROM t INNER JOIN u ON t.k = id"

lexed_join : Lexes a_join join_tokens
lexed_join =
    t.token {bytes = codes "SELECT"} (s.keyword_word k.Select refl) refl (t.blank refl
    (t.token {bytes = codes "*"} (s.mark Star) refl (t.blank refl
    (t.token {bytes = codes "FROM"} (s.keyword_word k.From refl) refl (t.blank refl
    (t.token {bytes = codes "t"} (s.word refl refl) refl (t.blank refl
    (t.token {bytes = codes "INNER"} (s.keyword_word k.Inner refl) refl (t.blank refl
    (t.token {bytes = codes "JOIN"} (s.keyword_word k.Join refl) refl (t.blank refl
    (t.token {bytes = codes "u"} (s.word refl refl) refl (t.blank refl
    (t.token {bytes = codes "ON"} (s.keyword_word k.On refl) refl (t.blank refl
    (t.token {bytes = codes "t"} (s.word refl refl) refl
    (t.token {bytes = codes "."} (s.mark Dot) refl
    (t.token {bytes = codes "k"} (s.word refl refl) refl (t.blank refl
    (t.token {bytes = codes "="} (s.comparison Eq) refl (t.blank refl
    (t.token {bytes = codes "id"} (s.word refl refl) refl t.end))))))))))))))))))))))

read_join : Reads a_join of_both
read_join = (
  join_tokens,
  lexed_join,
  g.statement (g.select_is (g.select g.star (g.present (g.inner_join (g.qualified (codes "t") (codes "k")) (g.bare (codes "id"))))
      g.absent g.without g.without g.absent)),
  lit≤ tt,
  refl,
)

-- DELETE FROM t WHERE id IS NULL, and the same with t.id
abbrev without_id : ColumnName → Statement
without_id c = Delete (record { table = codes "t"; filter = Some (IsNull (Column c)) })

is_plain : qualifies_outside_select (without_id (bare (codes "id"))) ≡ false
is_plain = search (rules, the_lemmas)

is_qualified : qualifies_outside_select (without_id (of_table (codes "t") (codes "id"))) ≡ true
is_qualified = search (rules, the_lemmas)
