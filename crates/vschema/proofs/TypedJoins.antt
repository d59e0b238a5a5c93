-- The join of a query that a statement means is one whose pairs lie on one shard each.
use Rattle.std.proofs.Common.{◌≡◌, ℕ, zero, suc, ◌+◌, ◌-◌, Bool, true, false, cond, List, [], ◌∷◌, ◌++◌, length, Option, Some, None, Ok, Err, Result, refl, sym, ap, subst, ◌∙◌, arith, slice_get}
use Rattle.std.specs.Prelude.{not, ◌||◌, ◌&&◌, ◌==◌, nat_lt, nat_le, slice_index_or}
use Rattle.std.proofs.lemmas.Bool.{ltb-true, leb-true, eqb-true}
use Rattle.vt_value.specs.declared.refusal.Refusal.{Refusal}
use Rattle.vt_value.specs.declared.refusal.Refusal.TheVariants.{UnknownColumn, NotSupported, NotGrouped}
use Rattle.vschema_json.specs.AnyVindex.{AnyVindex}
use Rattle.vschema_json.specs.AnyVindex.TheVariants.{Numeric, ReverseBits, Binary, BinaryMd5}
use Rattle.vschema_json.specs.OneVindex.{same_vindex, is_one_vindex}
use Rattle.sql_tree.specs.declared.JoinOn.{JoinOn}
use Rattle.sql_tree.specs.declared.Select as S
use Rattle.vschema_json.specs.declared.column.Column.{Column}
use Rattle.vschema.specs.declared.schema.ColumnVindex.{ColumnVindex}
use Rattle.vschema.specs.declared.schema.Join.{Join}
use Rattle.vschema.specs.declared.schema.Query.{Query}
use Rattle.vschema.specs.declared.schema.Table.{Table}
use Rattle.vschema.specs.declared.schema.VSchema.{VSchema}
use Rattle.vschema.specs.Schema.{table_ordinal, table_at, no_table}
use Rattle.vschema.specs.Scopes.{Scope, only, scope_columns}
use Rattle.vschema.specs.Checks.{names_unknown_column, select_is_not_supported, shows_ungrouped, is_aggregated}
use Rattle.vschema.specs.Joins.{takes_keys, takes_columns, left_ordinal, right_ordinal, resolved_join, is_refused, join_is_refused}
use Rattle.vschema.specs.Sources.{kind_of, type_at, HaveOneId, IsInPlace, JoinsInPlace}
use Rattle.vschema.specs.TypedStatement.{join_over, over, checked, checked_pair, checked_second, checked_with, checked_first, checked_at, typed_select}

both : (a b : Bool) → (a && b) ≡ true → (a ≡ true) × (b ≡ true)
both true true e = (refl, refl)
both true false e = cc
both false b e = cc

neither : (a b : Bool) → (a || b) ≡ false → (a ≡ false) × (b ≡ false)
neither true b e = cc
neither false b e = (refl, e)

not_false : (b : Bool) → not b ≡ false → b ≡ true
not_false true e = refl
not_false false e = cc

one_vindex : (v w : AnyVindex) → same_vindex v w ≡ true → v ≡ w
one_vindex Numeric Numeric e = refl
one_vindex Numeric ReverseBits e = cc
one_vindex Numeric Binary e = cc
one_vindex Numeric BinaryMd5 e = cc
one_vindex ReverseBits Numeric e = cc
one_vindex ReverseBits ReverseBits e = refl
one_vindex ReverseBits Binary e = cc
one_vindex ReverseBits BinaryMd5 e = cc
one_vindex Binary Numeric e = cc
one_vindex Binary ReverseBits e = cc
one_vindex Binary Binary e = refl
one_vindex Binary BinaryMd5 e = cc
one_vindex BinaryMd5 Numeric e = cc
one_vindex BinaryMd5 ReverseBits e = cc
one_vindex BinaryMd5 Binary e = cc
one_vindex BinaryMd5 BinaryMd5 e = refl

-- a column after those of the first table
past_at : (xs ys : List Column) (n m : ℕ) → m ≡ length xs + n → slice_get (xs ++ ys) m ≡ slice_get ys n
past_at [] ys n m e = let same : m ≡ n = omega (arith, e) in ap (slice_get ys) same
past_at (x ∷ xs) ys n zero e = absurd (omega (arith, e))
past_at (x ∷ xs) ys n (suc m) e = past_at xs ys n m (omega (arith, e))

module _ (t u : Table) (a b : ℕ) where
  abbrev s : Scope
  s = record { first = t; second = Some u }

  abbrev second : ℕ
  second = b - length t.columns

  ordinal : nat_le (length t.columns) b ≡ true → b ≡ length t.columns + second
  ordinal e = let le = leb-true (length t.columns) b e in omega (arith, le)

  one_id : nat_le (length t.columns) b ≡ true → (v w : Option ColumnVindex) → takes_keys s a b v w ≡ true → HaveOneId a second v w
  one_id le None None e = tt
  one_id le None (Some w) e = cc
  one_id le (Some v) None e = cc
  one_id le (Some v) (Some w) e =
      let last = both (is_one_vindex v.number v.vindex w.number w.vindex && (v.column == a)) (length t.columns + w.column == b) e in
      let middle = both (is_one_vindex v.number v.vindex w.number w.vindex) (v.column == a) last.0 in
      let vindexes = both (v.number == w.number) (same_vindex v.vindex w.vindex) middle.0 in
      let at : length t.columns + w.column ≡ b = eqb-true (length t.columns + w.column) b last.1 in
      let split : b ≡ length t.columns + second = ordinal le in
      let is : w.column ≡ second = omega (arith, at, split) in
      (one_vindex v.vindex w.vindex vindexes.1, eqb-true v.column a middle.1, is)

  second_type : nat_le (length t.columns) b ≡ true → kind_of (slice_get (scope_columns s) b) ≡ type_at u second
  second_type le = ap kind_of (past_at t.columns u.columns second b (ordinal le))

some_join : (a b : Join) → ◌≡◌ {A = Option Join} (Some a) (Some b) → a ≡ b
some_join a b e = cc

ok_query : (a b : Query) → ◌≡◌ {A = Result Query Refusal} (Ok a) (Ok b) → a ≡ b
ok_query a b e = cc

-- the query of two tables that passes the checks
two_tables : (schema : VSchema) (n m : ℕ) (t u : Table) (s : S.Select) → table_at schema n ≡ t → table_at schema m ≡ u
    → join_is_refused (record { first = t; second = Some u }) (over n (Some m) (record { first = t; second = Some u }) s) ≡ false
    → JoinsInPlace schema (over n (Some m) (record { first = t; second = Some u }) s)
two_tables schema n m t u s is_t is_u fine j e = by s.join refl e
  where
    scope : Scope
    scope = record { first = t; second = Some u }

    q : Query
    q = over n (Some m) (record { first = t; second = Some u }) s

    by : (on : Option JoinOn) → s.join ≡ on → join_over (record { first = t; second = Some u }) (Some m) on ≡ Some j
        → IsInPlace schema (over n (Some m) (record { first = t; second = Some u }) s) j
    by None is f = cc
    by (Some on) is f =
        let sc : Scope = record { first = t; second = Some u } in
        let qq : Query = over n (Some m) sc s in
        let j_is : resolved_join sc m on ≡ j = some_join (resolved_join sc m on) j f in
        let refused : is_refused sc (Some u) qq (Some (resolved_join sc m on)) ≡ false = ap (λ o. is_refused sc (Some u) qq (join_over sc (Some m) o)) (sym is) ∙ fine in
        let a = left_ordinal sc on in
        let b = right_ordinal sc on in
        let parts = neither ((n == m) || is_aggregated qq) (not (takes_columns sc u a b)) refused in
        let more = neither (n == m) (is_aggregated qq) parts.0 in
        let whole : takes_columns sc u a b ≡ true = not_false (takes_columns sc u a b) parts.1 in
        let keys = both (nat_lt a (length t.columns) && nat_le (length t.columns) b && (t.keyspace == u.keyspace)) (takes_keys sc a b t.vindex u.vindex) whole in
        let spaces = both (nat_lt a (length t.columns) && nat_le (length t.columns) b) (t.keyspace == u.keyspace) keys.0 in
        let trailing = both (nat_lt a (length t.columns)) (nat_le (length t.columns) b) spaces.0 in
        subst (IsInPlace schema qq) j_is (record {
          plain = more.1;
          keyspace = ap (λ (x : Table). x.keyspace) is_u ∙ sym (eqb-true t.keyspace u.keyspace spaces.1) ∙ ap (λ (x : Table). x.keyspace) (sym is_t);
          width = ap (λ (x : Table). length x.columns) (sym is_t);
          first = ltb-true a (length t.columns) trailing.0;
          second = b - length t.columns;
          ordinal = ordinal t u a b trailing.1;
          kind = second_type t u a b trailing.1 ∙ ap (λ x. type_at x (b - length t.columns)) (sym is_u);
          ids =
              subst (λ (x : Table). HaveOneId a (b - length t.columns) x.vindex (table_at schema m).vindex) (sym is_t)
              (subst (λ (y : Table). HaveOneId a (b - length t.columns) t.vindex y.vindex) (sym is_u) (one_id t u a b trailing.1 t.vindex u.vindex keys.1));
        })

-- what passes the checks is the query, and its join isn't refused
passes : (n : ℕ) (m : Option ℕ) (scope : Scope) (s : S.Select) (q : Query) → checked n m scope s ≡ Ok q
    → (join_is_refused scope (over n m scope s) ≡ false) × (over n m scope s ≡ q)
passes n m scope s q e =
    by (names_unknown_column scope s) (select_is_not_supported scope s) (join_is_refused scope (over n m scope s)) (shows_ungrouped (over n m scope s)) e
  where
    by : (a b c d : Bool) → cond a (Err UnknownColumn) (cond b (Err NotSupported)
        (cond c (Err NotSupported) (cond d (Err NotGrouped) (Ok (over n m scope s))))) ≡ Ok q
        → (c ≡ false) × (over n m scope s ≡ q)
    by true b c d f = cc
    by false true c d f = cc
    by false false true d f = cc
    by false false false true f = cc
    by false false false false f = (refl, ok_query (over n m scope s) q f)

table_is : (schema : VSchema) (n : ℕ) (t : Table) → slice_get schema.tables n ≡ Some t → table_at schema n ≡ t
table_is schema n t e = at schema.tables n e
  where
    at : (ts : List Table) (n : ℕ) → slice_get ts n ≡ Some t → slice_index_or ts n no_table ≡ t
    at [] zero f = cc
    at [] (suc n) f = cc
    at (x ∷ ts) zero f = cc
    at (x ∷ ts) (suc n) f = at ts n f

-- a query of one table has no join
one_table : (schema : VSchema) (n : ℕ) (t : Table) (s : S.Select) → JoinsInPlace schema (over n None (only t) s)
one_table schema n t s j e = cc

pub in_place : (schema : VSchema) (s : S.Select) (q : Query) → typed_select schema s ≡ Ok q → JoinsInPlace schema q
in_place schema s q e = by_table (table_ordinal schema s.table) e
  where
    by_pair : (n m : ℕ) (t : Table) → slice_get schema.tables n ≡ Some t → (u : Option Table) → slice_get schema.tables m ≡ u → checked_pair s n m t u ≡ Ok q → JoinsInPlace schema q
    by_pair n m t is None is_u f = cc
    by_pair n m t is (Some u) is_u f =
        let p = passes n (Some m) (record { first = t; second = Some u }) s q f in
        subst (JoinsInPlace schema) p.1 (two_tables schema n m t u s (table_is schema n t is) (table_is schema m u is_u) p.0)

    by_second : (n : ℕ) (t : Table) → slice_get schema.tables n ≡ Some t → (m : Option ℕ) → checked_second schema s n t m ≡ Ok q → JoinsInPlace schema q
    by_second n t is None f = cc
    by_second n t is (Some m) f = by_pair n m t is (slice_get schema.tables m) refl f

    by_join : (n : ℕ) (t : Table) → slice_get schema.tables n ≡ Some t → (on : Option JoinOn) → checked_with schema s n t on ≡ Ok q → JoinsInPlace schema q
    by_join n t is None f = let p = passes n None (only t) s q f in subst (JoinsInPlace schema) p.1 (one_table schema n t s)
    by_join n t is (Some j) f = by_second n t is (table_ordinal schema j.table) f

    by_first : (n : ℕ) (t : Option Table) → slice_get schema.tables n ≡ t → checked_first schema s n t ≡ Ok q → JoinsInPlace schema q
    by_first n None is f = cc
    by_first n (Some t) is f = by_join n t is s.join f

    by_table : (n : Option ℕ) → checked_at schema s n ≡ Ok q → JoinsInPlace schema q
    by_table None f = cc
    by_table (Some n) f = by_first n (slice_get schema.tables n) refl f
