-- What may follow a part of a statement goes on with nothing before it.
use Rattle.std.proofs.Common.{◌≡◌, ℕ, ◌≤◌, false, List, [], ◌∷◌, ◌++◌, Option, Some, None, refl, arith}
use Rattle.sql_lexer.specs.declared.token.Keyword.TheVariants as k
use Rattle.sql_lexer.specs.declared.token.Sign.TheVariants.{Semicolon}
use Rattle.sql_lexer.specs.Lexemes.{keyword, sign}
use Rattle.sql_tree.specs.declared.ColumnName.{ColumnName}
use Rattle.sql_tree.specs.declared.Condition.{Condition}
use Rattle.sql_tree.specs.declared.Key.{Key}
use Rattle.sql_tree.specs.declared.LimitClause.{LimitClause}
use Rattle.sql_parser.specs.Grammar.{Lexemes, Optional, ReadsWhere, ReadsGroup, ReadsOrder, ReadsLimit}
use Rattle.sql_parser.specs.Grammar as g
use Rattle.sql_parser.specs.inner.Reading.{is_comma, is_and, is_or, is_dot, after_at, join_at, where_at, group_at, direction_at, order_at, offset_at, limit_at}

-- Tokens that come after the clause of the number: 1 is WHERE, 2 GROUP BY, 3 ORDER BY and 4 LIMIT; 0 is what stands before them.
pub data AfterClause (n : ℕ) : Lexemes → Type 0 where
  end : AfterClause n []
  semicolon : {ts : Lexemes} → AfterClause n (sign Semicolon ∷ ts)
  at_where : {ts : Lexemes} → n ≤ 0 → AfterClause n (keyword k.Where ∷ ts)
  at_group : {ts : Lexemes} → n ≤ 1 → AfterClause n (keyword k.Group ∷ keyword k.By ∷ ts)
  at_order : {ts : Lexemes} → n ≤ 2 → AfterClause n (keyword k.Order ∷ keyword k.By ∷ ts)
  at_limit : {ts : Lexemes} → n ≤ 3 → AfterClause n (keyword k.Limit ∷ ts)

-- ---- none of them goes on with what stands before it

pub no_comma : {n : ℕ} (ts : Lexemes) → AfterClause n ts → after_at is_comma ts ≡ None
no_comma _ end = refl
no_comma _ semicolon = refl
no_comma _ (at_where le) = refl
no_comma _ (at_group le) = refl
no_comma _ (at_order le) = refl
no_comma _ (at_limit le) = refl

pub no_and : {n : ℕ} (ts : Lexemes) → AfterClause n ts → after_at is_and ts ≡ None
no_and _ end = refl
no_and _ semicolon = refl
no_and _ (at_where le) = refl
no_and _ (at_group le) = refl
no_and _ (at_order le) = refl
no_and _ (at_limit le) = refl

pub no_or : {n : ℕ} (ts : Lexemes) → AfterClause n ts → after_at is_or ts ≡ None
no_or _ end = refl
no_or _ semicolon = refl
no_or _ (at_where le) = refl
no_or _ (at_group le) = refl
no_or _ (at_order le) = refl
no_or _ (at_limit le) = refl

pub no_dot : {n : ℕ} (ts : Lexemes) → AfterClause n ts → after_at is_dot ts ≡ None
no_dot _ end = refl
no_dot _ semicolon = refl
no_dot _ (at_where le) = refl
no_dot _ (at_group le) = refl
no_dot _ (at_order le) = refl
no_dot _ (at_limit le) = refl

pub no_join : {n : ℕ} (ts : Lexemes) → AfterClause n ts → join_at ts ≡ Some (None, ts)
unfolding join_at
no_join _ end = refl
no_join _ semicolon = refl
no_join _ (at_where le) = refl
no_join _ (at_group le) = refl
no_join _ (at_order le) = refl
no_join _ (at_limit le) = refl

pub no_direction : {n : ℕ} (ts : Lexemes) → AfterClause n ts → direction_at ts ≡ (false, ts)
unfolding direction_at
no_direction _ end = refl
no_direction _ semicolon = refl
no_direction _ (at_where le) = refl
no_direction _ (at_group le) = refl
no_direction _ (at_order le) = refl
no_direction _ (at_limit le) = refl

pub no_where : (ts : Lexemes) → AfterClause 1 ts → where_at ts ≡ Some (None, ts)
unfolding where_at
no_where _ end = refl
no_where _ semicolon = refl
no_where _ (at_where le) = absurd (omega arith)
no_where _ (at_group le) = refl
no_where _ (at_order le) = refl
no_where _ (at_limit le) = refl

pub no_group : (ts : Lexemes) → AfterClause 2 ts → group_at ts ≡ Some ([], ts)
unfolding group_at
no_group _ end = refl
no_group _ semicolon = refl
no_group _ (at_where le) = absurd (omega arith)
no_group _ (at_group le) = absurd (omega arith)
no_group _ (at_order le) = refl
no_group _ (at_limit le) = refl

pub no_order : (ts : Lexemes) → AfterClause 3 ts → order_at ts ≡ Some ([], ts)
unfolding order_at
no_order _ end = refl
no_order _ semicolon = refl
no_order _ (at_where le) = absurd (omega arith)
no_order _ (at_group le) = absurd (omega arith)
no_order _ (at_order le) = absurd (omega arith)
no_order _ (at_limit le) = refl

pub no_limit : (ts : Lexemes) → AfterClause 4 ts → limit_at ts ≡ Some (None, ts)
unfolding limit_at
no_limit _ end = refl
no_limit _ semicolon = refl
no_limit _ (at_where le) = absurd (omega arith)
no_limit _ (at_group le) = absurd (omega arith)
no_limit _ (at_order le) = absurd (omega arith)
no_limit _ (at_limit le) = absurd (omega arith)

pub no_offset : {n : ℕ} (ts : Lexemes) → AfterClause n ts → offset_at ts ≡ Some (0, ts)
unfolding offset_at
no_offset _ end = refl
no_offset _ semicolon = refl
no_offset _ (at_where le) = refl
no_offset _ (at_group le) = refl
no_offset _ (at_order le) = refl
no_offset _ (at_limit le) = refl

-- ---- clauses with what comes after them

pub earlier : (n m : ℕ) → m ≤ n → (ts : Lexemes) → AfterClause n ts → AfterClause m ts
earlier n m le _ end = end
earlier n m le _ semicolon = semicolon
earlier n m le _ (at_where h) = at_where (omega arith)
earlier n m le _ (at_group h) = at_group (omega arith)
earlier n m le _ (at_order h) = at_order (omega arith)
earlier n m le _ (at_limit h) = at_limit (omega arith)

pub limit_after : (us : Lexemes) (x : Option LimitClause) → Optional ReadsLimit us x → (rest : Lexemes) → AfterClause 4 rest → AfterClause 3 (us ++ rest)
limit_after _ _ g.absent rest b = earlier 4 3 (omega arith) rest b
limit_after _ _ (g.present (g.limit n lt)) rest b = at_limit (omega arith)
limit_after _ _ (g.present (g.offset n m lt lt2)) rest b = at_limit (omega arith)

pub order_after : (us : Lexemes) (x : List (Key ColumnName)) → ReadsOrder us x → (rest : Lexemes) → AfterClause 3 rest → AfterClause 2 (us ++ rest)
order_after _ _ g.without rest b = earlier 3 2 (omega arith) rest b
order_after _ _ (g.clause r) rest b = at_order (omega arith)

pub group_after : (us : Lexemes) (x : List ColumnName) → ReadsGroup us x → (rest : Lexemes) → AfterClause 2 rest → AfterClause 1 (us ++ rest)
group_after _ _ g.without rest b = earlier 2 1 (omega arith) rest b
group_after _ _ (g.clause r) rest b = at_group (omega arith)

pub where_after : (us : Lexemes) (x : Option (Condition ColumnName)) → Optional ReadsWhere us x → (rest : Lexemes) → AfterClause 1 rest → AfterClause 0 (us ++ rest)
where_after _ _ g.absent rest b = earlier 1 0 (omega arith) rest b
where_after _ _ (g.present (g.filter r)) rest b = at_where (omega arith)
