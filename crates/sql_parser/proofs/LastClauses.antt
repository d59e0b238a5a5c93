-- The clauses after the filter of a SELECT.
use Rattle.std.proofs.Common.{◌≡◌, true, List, [], ◌∷◌, Option, Some, None, refl}
use Rattle.sql_lexer.specs.declared.token.Sign.TheVariants.{LeftParenthesis, RightParenthesis, Comma, Semicolon, Star, Minus, Dot}
use Rattle.sql_lexer.specs.Endings.{is_end}
use Rattle.sql_lexer.specs.Lexemes.{keyword, identifier, number, text, sign, operator}
use Rattle.sql_lexer.specs.inner.Results.{◌>>=◌}
use Rattle.sql_tree.specs.declared.ColumnName.{ColumnName}
use Rattle.sql_tree.specs.declared.Key.{Key}
use Rattle.sql_tree.specs.declared.LimitClause.{LimitClause}
use Rattle.sql_parser.specs.declared.last_clauses.LastClauses.{LastClauses}
use Rattle.sql_parser.specs.Grammar.{Lexemes}
use Rattle.sql_parser.specs.inner.Reading.{Read, group_at, order_at, limit_at, last_clauses_at}

-- there are none where a text ends
pub none_at_end : (ts : Lexemes) → is_end ts ≡ true → last_clauses_at ts ≡ Some (record { group_by = []; order_by = []; limit = None }, ts)
unfolding group_at order_at limit_at
none_at_end [] h = refl
none_at_end (sign Semicolon ∷ []) h = refl
none_at_end (sign Semicolon ∷ t ∷ ts) h = absurd cc
none_at_end (sign LeftParenthesis ∷ ts) h = absurd cc
none_at_end (sign RightParenthesis ∷ ts) h = absurd cc
none_at_end (sign Comma ∷ ts) h = absurd cc
none_at_end (sign Star ∷ ts) h = absurd cc
none_at_end (sign Minus ∷ ts) h = absurd cc
none_at_end (sign Dot ∷ ts) h = absurd cc
none_at_end (keyword k ∷ ts) h = absurd cc
none_at_end (identifier bytes ∷ ts) h = absurd cc
none_at_end (number n ∷ ts) h = absurd cc
none_at_end (text bytes ∷ ts) h = absurd cc
none_at_end (operator op ∷ ts) h = absurd cc

abbrev last : List ColumnName → List (Key ColumnName) → Option LimitClause → LastClauses
last group_by order_by limit = record { group_by = group_by; order_by = order_by; limit = limit }

-- What is made of them is made of each, one after the other.
module _ {A : Type 0} (make : List ColumnName → List (Key ColumnName) → Option LimitClause → A) where
  abbrev pub made : LastClauses × Lexemes → Read A
  made x = Some (make x.0.group_by x.0.order_by x.0.limit, x.1)

  after_order : (g : List ColumnName × Lexemes) (o : List (Key ColumnName) × Lexemes) (read : Read (Option LimitClause))
      → (read >>= λ l. Some (make g.0 o.0 l.0, l.1)) ≡ ((read >>= λ l. Some (last g.0 o.0 l.0, l.1)) >>= made)
  after_order g o (Some l) = refl
  after_order g o None = refl

  after_group : (g : List ColumnName × Lexemes) (read : Read (List (Key ColumnName)))
      → (read >>= λ o. limit_at o.1 >>= λ l. Some (make g.0 o.0 l.0, l.1)) ≡ ((read >>= λ o. limit_at o.1 >>= λ l. Some (last g.0 o.0 l.0, l.1)) >>= made)
  after_group g (Some o) = after_order g o (limit_at o.1)
  after_group g None = refl

  after_filter : (read : Read (List ColumnName))
      → (read >>= λ g. order_at g.1 >>= λ o. limit_at o.1 >>= λ l. Some (make g.0 o.0 l.0, l.1))
      ≡ ((read >>= λ g. order_at g.1 >>= λ o. limit_at o.1 >>= λ l. Some (last g.0 o.0 l.0, l.1)) >>= made)
  after_filter (Some g) = after_group g (order_at g.1)
  after_filter None = refl

  pub made_of_last : (ts : Lexemes)
      → (group_at ts >>= λ g. order_at g.1 >>= λ o. limit_at o.1 >>= λ l. Some (make g.0 o.0 l.0, l.1))
      ≡ (last_clauses_at ts >>= made)
  made_of_last ts = after_filter (group_at ts)
