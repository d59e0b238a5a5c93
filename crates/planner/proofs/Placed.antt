-- The rows of a shard lie in its range, and its tables may hold them.
use Rattle.std.proofs.Common.{◌≡◌, ℕ, zero, suc, ◌<◌, ◌^◌, Bool, true, false, cond, List, [], ◌∷◌, ◌+◌, length, get_or, map, filter, Contains, Option, Some, None, pos, negsuc, refl, sym, ap, subst, ◌∙◌, arith, slice_get}
use Rattle.std.specs.Prelude.{not, ◌||◌, ◌&&◌, ◌==◌, nat_lt, int_lt, option_map}
use Rattle.std.specs.List.{AllByRecursion}
use Rattle.std.proofs.lemmas.Bool.{lt-ltb, ltb-false, eqb-true}
use Rattle.vt_value.specs.declared.value.Value.{Value}
use Rattle.vt_value.specs.declared.value.Value.TheVariants.{Null, Int, Bytes}
use Rattle.vt_value.specs.Values.{Row, value_at, is_null}
use Rattle.keyrange.specs.Ranges.{has_id}
use Rattle.vindex.specs.declared.AnyVindex.{AnyVindex}
use Rattle.vindex.specs.declared.AnyVindex.TheVariants.{Numeric, ReverseBits, Binary, BinaryMd5}
use Rattle.vindex.specs.KeyspaceIds.{keyspace_id, is_key}
use Rattle.vschema.specs.Column.{Column}
use Rattle.vschema.specs.ColumnType.{ColumnType}
use Rattle.vschema.specs.ColumnType.TheVariants.{BigInt, BigIntUnsigned, VarBinary}
use Rattle.vschema.specs.declared.schema.ColumnVindex.{ColumnVindex}
use Rattle.vschema.specs.declared.schema.Place.{Place}
use Rattle.vschema.specs.declared.schema.Table.{Table}
use Rattle.vschema.specs.declared.schema.VSchema.{VSchema}
use Rattle.vschema.specs.Schema.{row_id, no_table}
use Rattle.vschema.specs.Checks.{is_text_type, differ}
use Rattle.vschema.specs.WriteChecks.{is_out_of_range, is_too_long}
use Rattle.vschema.specs.Storable.{is_storable_value, are_storable_values, is_storable}
use Rattle.vschema.specs.Database.{Database, rows_of, lies_in, restricted, restrict}
use Rattle.vschema.specs.declared.schema.Join.{Join}
use Rattle.vschema.specs.declared.schema.Query.{Query}
use Rattle.vschema.specs.Sources.{kind_of, paired, is_pair, pairs_of, with_pairs, source_rows, join_tables, source_tables, HaveOneId, JoinsInPlace}
use Rattle.sql_eval.proofs.PairValues.{left_at, right_at}
use Rattle.sql_eval.proofs.Pairs.{all_join}
use Rattle.planner.specs.declared.keys.KeyColumn.{KeyColumn}
use Rattle.planner.specs.declared.keys.Keys.{Keys}
use Rattle.planner.proofs.TrueConditions.{same_values}
use Rattle.planner.specs.Plans.{ShardRows}
use Rattle.planner.specs.Right.{LiesInPlace}
use Rattle.planner.specs.Routes.{type_at, kind_in, second_kind, keys_on, keys_of, is_held, id_by, id_of, table_at}

pub at_contains : {X : Type 0} (P : X → Type 0) (xs : List X) (x : X) → AllByRecursion P xs → Contains xs x → P x
at_contains P [] x all h = absurd (omega (arith, h.1))
at_contains P (y ∷ ys) x all h = by (at_contains P ys x all.1) h.0 h.1 h.2
  where
    by : (Contains ys x → P x) → (k : ℕ) → k < length (y ∷ ys) → get_or (y ∷ ys) k x ≡ x → P x
    by rest zero l e = subst P e all.0
    by rest (suc k) l e = rest (k, omega (arith, l), e)

pub and_left : (a b : Bool) → (a && b) ≡ true → a ≡ true
and_left true b e = refl
and_left false b e = cc

pub and_right : (a b : Bool) → (a && b) ≡ true → b ≡ true
and_right true b e = e
and_right false b e = cc

pub all_filtered : {X : Type 0} (p : X → Bool) (xs : List X) → AllByRecursion (λ x. p x ≡ true) (filter p xs)
all_filtered p [] = tt
all_filtered p (x ∷ xs) = by (all_filtered p xs) (p x) refl
  where
    by : AllByRecursion (λ y. p y ≡ true) (filter p xs) → (b : Bool) → p x ≡ b → AllByRecursion (λ y. p y ≡ true) (cond b (x ∷ filter p xs) (filter p xs))
    by rest true e = (e, rest)
    by rest false e = rest

first_rows : Database → List Row
first_rows [] = []
first_rows (rows ∷ db) = rows

other_rows : Database → Database
other_rows [] = []
other_rows (rows ∷ db) = db

lying : (tables : List Table) (place : Place) (db : Database) (n : ℕ) → restricted tables place db ≡ db
    → AllByRecursion (λ row. lies_in place (get_or tables n no_table) row ≡ true) (rows_of db n)
unfolding first_rows other_rows
lying [] place [] n e = by n
  where
    by : (n : ℕ) → AllByRecursion (λ row. lies_in place (get_or [] n no_table) row ≡ true) (rows_of [] n)
    by zero = tt
    by (suc n) = tt
lying [] place (rows ∷ db) n e = cc
lying (t ∷ tables) place [] zero e = tt
lying (t ∷ tables) place [] (suc n) e = tt
lying (t ∷ tables) place (rows ∷ db) zero e =
    subst (AllByRecursion (λ row. lies_in place t row ≡ true)) (ap first_rows e) (all_filtered (lies_in place t) rows)
lying (t ∷ tables) place (rows ∷ db) (suc n) e = lying tables place db n (ap other_rows e)

-- what a table's column may hold, at any place of a row
stored : Option Column → Value → Bool
stored None v = is_null v
stored (Some c) v = is_storable_value c v

stored_at : (columns : List Column) (row : Row) (n : ℕ) → are_storable_values columns row ≡ true → stored (slice_get columns n) (value_at row n) ≡ true
unfolding stored
stored_at [] [] zero e = refl
stored_at [] [] (suc n) e = refl
stored_at [] (v ∷ row) n e = cc
stored_at (c ∷ columns) [] n e = cc
stored_at (c ∷ columns) (v ∷ row) zero e = and_left _ _ e
stored_at (c ∷ columns) (v ∷ row) (suc n) e = stored_at columns row n (and_right _ _ e)

not_true : (b : Bool) → not b ≡ true → b ≡ false
not_true true e = cc
not_true false e = refl

neither_of : (a b c : Bool) → a ≡ false → b ≡ false → c ≡ false → not (a || b || c) ≡ true
neither_of a b c e f g = rw (e, f, g) refl

held : (column : Option Column) (v : Value) → stored column v ≡ true → is_null v ≡ false → is_held (kind_of column) v ≡ true
unfolding stored
held None v e h = cc
held (Some c) v e h =
    neither_of (is_null v) (is_out_of_range c.kind v) (is_too_long c.kind v) h
    (not_true (is_out_of_range c.kind v) (and_right _ _ (and_left _ _ e))) (not_true (is_too_long c.kind v) (and_right _ _ e))

or_right : (a b : Bool) → (a || b) ≡ false → b ≡ false
or_right true b e = cc
or_right false b e = e

-- a number that is stored has 64 bits
small : (c : Column) (n : ℕ) → stored (Some c) (Int (pos n)) ≡ true → nat_lt n (2 ^ 64) ≡ true
unfolding stored
small c n e = by c.kind (and_right _ _ (and_left _ _ (and_left _ _ e))) (not_true (is_out_of_range c.kind (Int (pos n))) (and_right _ _ (and_left _ _ e)))
  where
    by : (kind : ColumnType) → not (differ (Some (is_text_type kind)) (Some false)) ≡ true → is_out_of_range kind (Int (pos n)) ≡ false → nat_lt n (2 ^ 64) ≡ true
    by BigInt d e = let less = ltb-false 9223372036854775807 n (or_right (int_lt (pos n) (negsuc 9223372036854775807)) (int_lt (pos 9223372036854775807) (pos n)) e) in lt-ltb n (2 ^ 64) (omega (arith, less))
    by BigIntUnsigned d e = let less = ltb-false 18446744073709551615 n (or_right (int_lt (pos n) (pos 0)) (int_lt (pos 18446744073709551615) (pos n)) e) in lt-ltb n (2 ^ 64) (omega (arith, less))
    by (VarBinary k) d e = cc

-- the id of a stored value is that of a key
stored_key : (vindex : AnyVindex) (column : Option Column) (v : Value) → stored column v ≡ true
    → cond (is_key vindex v) (keyspace_id vindex v) [] ≡ keyspace_id vindex v
unfolding stored
stored_key Numeric column Null e = refl
stored_key Numeric None (Int (pos n)) e = cc
stored_key Numeric (Some c) (Int (pos n)) e = let key = small c n e in rw key refl
stored_key Numeric column (Int (negsuc n)) e = refl
stored_key Numeric column (Bytes t) e = refl
stored_key ReverseBits column Null e = refl
stored_key ReverseBits None (Int (pos n)) e = cc
stored_key ReverseBits (Some c) (Int (pos n)) e = let key = small c n e in rw key refl
stored_key ReverseBits column (Int (negsuc n)) e = refl
stored_key ReverseBits column (Bytes t) e = refl
stored_key Binary column Null e = refl
stored_key Binary column (Int n) e = refl
stored_key Binary column (Bytes t) e = refl
stored_key BinaryMd5 column Null e = refl
stored_key BinaryMd5 column (Int n) e = refl
stored_key BinaryMd5 column (Bytes t) e = refl

pub id_none : (t : Table) (row : Row) → t.vindex ≡ None → row_id t row ≡ []
id_none t row e = rw e refl

id-row : (t : Table) (row : Row) (v : ColumnVindex) → t.vindex ≡ Some v → row_id t row ≡ keyspace_id v.vindex (value_at row v.column)
id-row t row v e = rw e refl

-- the id of a row that the table may hold is that of its vindex column
pub id_stored : (t : Table) (row : Row) (v : ColumnVindex) → is_storable t row ≡ true → t.vindex ≡ Some v → id_of t (value_at row v.column) ≡ row_id t row
id_stored t row v fits e =
    ap (λ vindex. id_by vindex (value_at row v.column)) e
    ∙ stored_key v.vindex (slice_get t.columns v.column) (value_at row v.column) (stored_at t.columns row v.column fits) ∙ sym (id-row t row v e)

-- what is known of each row of a table on a shard
pub record IsStored (t : Table) (shard : ShardRows) (row : Row) : Type 0 where
  pub lies : has_id shard.0 (row_id t row) ≡ true
  pub fits : is_storable t row ≡ true

-- what is known of a row's value that decides the shard
pub record IsKeyHome (t : Table) (shard : ShardRows) (row : Row) (k : KeyColumn) : Type 0 where
  pub holds : is_null (value_at row k.column) ≡ false → is_held k.kind (value_at row k.column) ≡ true
  pub lies : has_id shard.0 (id_of t (value_at row k.column)) ≡ true

abbrev pub IsSecondHome : Table → ShardRows → Row → Option KeyColumn → Type 0
IsSecondHome t shard row None = Unit {0}
IsSecondHome t shard row (Some k) = IsKeyHome t shard row k

abbrev pub AreKeysHome : Table → ShardRows → Row → Keys → Type 0
AreKeysHome t shard row keys = IsKeyHome t shard row keys.first × IsSecondHome t shard row keys.second

-- what is known of each row that a query is over on a shard
abbrev pub IsHome : Table → Option Keys → ShardRows → Row → Type 0
IsHome t None shard row = has_id shard.0 [] ≡ true
IsHome t (Some keys) shard row = AreKeysHome t shard row keys

same_kind : (a b : ColumnType) → Some a ≡ Some b → a ≡ b
same_kind a b e = cc

-- each column that decides the shard is home
pub key_home : (t : Table) (shard : ShardRows) (row : Row) (keys : Keys) → AreKeysHome t shard row keys → (n : ℕ) (kind : ColumnType) → kind_in keys n ≡ Some kind
    → IsKeyHome t shard row (record { column = n; kind = kind })
key_home t shard row keys home n kind e = by_first (keys.first.column == n) refl e
  where
    one : (k : KeyColumn) → IsKeyHome t shard row k → (k.column == n) ≡ true → Some k.kind ≡ Some kind → IsKeyHome t shard row (record { column = n; kind = kind })
    one k is same f =
        subst (λ c. IsKeyHome t shard row (record { column = c; kind = kind })) (eqb-true k.column n same)
        (subst (λ u. IsKeyHome t shard row (record { column = k.column; kind = u })) (same_kind k.kind kind f) is)

    by_second : (second : Option KeyColumn) → IsSecondHome t shard row second → second_kind second n ≡ Some kind → IsKeyHome t shard row (record { column = n; kind = kind })
    by_second None is f = cc
    by_second (Some k) is f = by (k.column == n) refl f
      where
        by : (b : Bool) → (k.column == n) ≡ b → cond b (Some k.kind) None ≡ Some kind → IsKeyHome t shard row (record { column = n; kind = kind })
        by true same f = one k is same f
        by false same f = cc

    by_first : (b : Bool) → (keys.first.column == n) ≡ b → cond b (Some keys.first.kind) (second_kind keys.second n) ≡ Some kind
        → IsKeyHome t shard row (record { column = n; kind = kind })
    by_first true same f = one keys.first home.0 same f
    by_first false same f = by_second keys.second home.1 f

-- a value that a table's column holds
held_at : (t : Table) (row : Row) (n : ℕ) → is_storable t row ≡ true → is_null (value_at row n) ≡ false → is_held (type_at t n) (value_at row n) ≡ true
held_at t row n fits h = held (slice_get t.columns n) (value_at row n) (stored_at t.columns row n fits) h

-- the vindex column of a stored row
vindex_home : (t : Table) (shard : ShardRows) (row : Row) (v : ColumnVindex) → t.vindex ≡ Some v → IsStored t shard row
    → IsKeyHome t shard row (record { column = v.column; kind = type_at t v.column })
vindex_home t shard row v is stored = record {
  holds = λ h. held_at t row v.column stored.fits h;
  lies = ap (has_id shard.0) (id_stored t row v stored.fits is) ∙ stored.lies;
}

-- a stored row, in a query over its table
row_home : (t : Table) (shard : ShardRows) (row : Row) → IsStored t shard row → IsHome t (keys_of t None) shard row
row_home t shard row stored = by t.vindex refl
  where
    by : (vindex : Option ColumnVindex) → t.vindex ≡ vindex → IsHome t (option_map (λ v. keys_on t v None) vindex) shard row
    by None is = subst (λ id. has_id shard.0 id ≡ true) (id_none t row is) stored.lies
    by (Some v) is = (vindex_home t shard row v is stored, tt)

pub rows_are_home : (t : Table) (shard : ShardRows) (rows : List Row) → AllByRecursion (IsStored t shard) rows → AllByRecursion (IsHome t (keys_of t None) shard) rows
rows_are_home t shard [] all = tt
rows_are_home t shard (row ∷ rows) all = (row_home t shard row all.0, rows_are_home t shard rows all.1)

stored_rows : (t : Table) (shard : ShardRows) (keyspace : ℕ) (rows : List Row)
    → AllByRecursion (λ row. lies_in (record { keyspace = keyspace; range = shard.0 }) t row ≡ true) rows
    → AllByRecursion (λ row. is_storable t row ≡ true) rows → AllByRecursion (IsStored t shard) rows
stored_rows t shard keyspace [] lies fits = tt
stored_rows t shard keyspace (row ∷ rows) lies fits =
    (record { lies = and_right _ _ lies.0; fits = fits.0 }, stored_rows t shard keyspace rows lies.1 fits.1)

-- the rows of a table on a shard
pub rows_stored : (schema : VSchema) (keyspace n : ℕ) (shard : ShardRows) → restrict schema (record { keyspace = keyspace; range = shard.0 }) shard.1 ≡ shard.1
    → AllByRecursion (λ row. is_storable (table_at schema n) row ≡ true) (rows_of shard.1 n) → AllByRecursion (IsStored (table_at schema n) shard) (rows_of shard.1 n)
rows_stored schema keyspace n shard placed fits =
    stored_rows (table_at schema n) shard keyspace (rows_of shard.1 n)
    (lying schema.tables (record { keyspace = keyspace; range = shard.0 }) shard.1 n placed) fits

-- the rows of a table, for a write
pub rows_home : (schema : VSchema) (n : ℕ) (shard : ShardRows) → LiesInPlace schema (table_at schema n).keyspace (n ∷ []) shard
    → AllByRecursion (IsHome (table_at schema n) (keys_of (table_at schema n) None) shard) (rows_of shard.1 n)
rows_home schema n shard is =
    rows_are_home (table_at schema n) shard (rows_of shard.1 n) (rows_stored schema (table_at schema n).keyspace n shard is.placed is.storable.0)

-- ---- pairs

-- a join of two tables
module _ (t u : Table) (j : Join) (second : ℕ) (first : j.first < j.width) (place : j.second ≡ j.width + second) where
  firsts : (a b : Row) → value_at (paired j a b) j.first ≡ value_at a j.first
  firsts a b = left_at j.width a b j.first first

  seconds : (a b : Row) → value_at (paired j a b) j.second ≡ value_at b second
  seconds a b = right_at j.width a b second j.second place

  -- rows that are a pair have one keyspace id
  pub one_id : HaveOneId j.first second t.vindex u.vindex → (a b : Row) → is_pair j a b ≡ true → row_id t a ≡ row_id u b
  one_id ids a b e = by t.vindex u.vindex refl refl ids
    where
      equal : value_at a j.first ≡ value_at b second
      equal = sym (firsts a b) ∙ same_values (value_at (paired j a b) j.first) (value_at (paired j a b) j.second) e ∙ seconds a b

      by : (x y : Option ColumnVindex) → t.vindex ≡ x → u.vindex ≡ y → HaveOneId j.first second x y → row_id t a ≡ row_id u b
      by None None p q h = id_none t a p ∙ sym (id_none u b q)
      by None (Some w) p q h = absurd h
      by (Some v) None p q h = absurd h
      by (Some v) (Some w) p q h =
          id-row t a v p ∙ ap (λ c. keyspace_id v.vindex (value_at a c)) h.1 ∙ ap (keyspace_id v.vindex) equal
          ∙ ap (λ x. keyspace_id x (value_at b second)) h.0 ∙ ap (λ c. keyspace_id w.vindex (value_at b c)) (sym h.2) ∙ sym (id-row u b w q)

  -- a pair of stored rows
  pair_home : j.kind ≡ type_at u second → HaveOneId j.first second t.vindex u.vindex → (shard : ShardRows) (a b : Row) → IsStored t shard a → IsStored u shard b
      → IsHome t (keys_of t (Some j)) shard (paired j a b)
  pair_home kind ids shard a b here there = by t.vindex u.vindex refl refl ids
    where
      by : (x y : Option ColumnVindex) → t.vindex ≡ x → u.vindex ≡ y → HaveOneId j.first second x y
          → IsHome t (option_map (λ v. keys_on t v (Some j)) x) shard (paired j a b)
      by None None p q h = subst (λ id. has_id shard.0 id ≡ true) (id_none t a p) here.lies
      by None (Some w) p q h = absurd h
      by (Some v) None p q h = absurd h
      by (Some v) (Some w) p q h =
          let at_first : value_at (paired j a b) v.column ≡ value_at a v.column = left_at j.width a b v.column (subst (λ c. c < j.width) (sym h.1) first) in
          let one = vindex_home t shard a v p here in
          let other = vindex_home u shard b w q there in
          let at_second : value_at (paired j a b) j.second ≡ value_at b w.column = seconds a b ∙ ap (value_at b) (sym h.2) in
          let of_kind : type_at u w.column ≡ j.kind = ap (type_at u) h.2 ∙ sym kind in
          let of_id : id_of u (value_at b w.column) ≡ id_of t (value_at b w.column) =
          ap (λ z. id_by z (value_at b w.column)) q ∙ ap (λ x. cond (is_key x (value_at b w.column)) (keyspace_id x (value_at b w.column)) []) (sym h.0)
          ∙ ap (λ z. id_by z (value_at b w.column)) (sym p)
          in (
            record {
              holds = subst (λ x. is_null x ≡ false → is_held (type_at t v.column) x ≡ true) (sym at_first) one.holds;
              lies = subst (λ x. has_id shard.0 (id_of t x) ≡ true) (sym at_first) one.lies;
            },
            record {
              holds =
                  subst (λ x. is_null x ≡ false → is_held j.kind x ≡ true) (sym at_second)
                  (subst (λ k. is_null (value_at b w.column) ≡ false → is_held k (value_at b w.column) ≡ true) of_kind other.holds);
              lies = subst (λ x. has_id shard.0 (id_of t x) ≡ true) (sym at_second) (subst (λ id. has_id shard.0 id ≡ true) of_id other.lies);
            },
          )

  pub pairs_home : j.kind ≡ type_at u second → HaveOneId j.first second t.vindex u.vindex → (shard : ShardRows) (xs ys : List Row)
      → AllByRecursion (IsStored t shard) xs → AllByRecursion (IsStored u shard) ys → AllByRecursion (IsHome t (keys_of t (Some j)) shard) (pairs_of j xs ys)
  pairs_home kind ids shard [] ys here there = tt
  pairs_home kind ids shard (a ∷ xs) ys here there =
      all_join (IsHome t (keys_of t (Some j)) shard) (map (paired j a) (filter (is_pair j a) ys)) (pairs_of j xs ys) (one ys there) (pairs_home kind ids shard xs ys here.1 there)
    where
      one : (ys : List Row) → AllByRecursion (IsStored u shard) ys → AllByRecursion (IsHome t (keys_of t (Some j)) shard) (map (paired j a) (filter (is_pair j a) ys))
      one [] all = tt
      one (b ∷ ys) all = by (is_pair j a b) (one ys all.1)
        where
          by : (is : Bool) → AllByRecursion (IsHome t (keys_of t (Some j)) shard) (map (paired j a) (filter (is_pair j a) ys))
              → AllByRecursion (IsHome t (keys_of t (Some j)) shard) (map (paired j a) (cond is (b ∷ filter (is_pair j a) ys) (filter (is_pair j a) ys)))
          by true rest = (pair_home kind ids shard a b here.0 all.0, rest)
          by false rest = rest

-- the rows that a query is over on a shard
pub sources_home : (schema : VSchema) (q : Query) → JoinsInPlace schema q → (shard : ShardRows) → LiesInPlace schema (table_at schema q.table).keyspace (source_tables q) shard
    → AllByRecursion (IsHome (table_at schema q.table) (keys_of (table_at schema q.table) q.join) shard) (source_rows q shard.1)
sources_home schema q joins shard is = by q.join refl is.storable.1
  where
    here : AllByRecursion (IsStored (table_at schema q.table) shard) (rows_of shard.1 q.table)
    here = rows_stored schema (table_at schema q.table).keyspace q.table shard is.placed is.storable.0

    by : (join : Option Join) → q.join ≡ join
        → AllByRecursion (λ n. AllByRecursion (λ row. is_storable (table_at schema n) row ≡ true) (rows_of shard.1 n)) (join_tables join)
        → AllByRecursion (IsHome (table_at schema q.table) (keys_of (table_at schema q.table) join) shard) (with_pairs join (rows_of shard.1 q.table) shard.1)
    by None e fits = rows_are_home (table_at schema q.table) shard (rows_of shard.1 q.table) here
    by (Some j) e fits =
        let in_place = joins j e in
        pairs_home (table_at schema q.table) (table_at schema j.table) j in_place.second in_place.first in_place.ordinal in_place.kind in_place.ids shard
        (rows_of shard.1 q.table) (rows_of shard.1 j.table) here
        (rows_stored schema (table_at schema q.table).keyspace j.table shard is.placed fits.0)
