-- The rows that a query keeps on each shard are those that it keeps of all.
use Rattle.std.proofs.Common.{◌≡◌, ℕ, zero, suc, Bool, true, false, cond, List, [], ◌∷◌, ◌++◌, filter, flat_map, Option, Some, None, refl, sym, ap, ◌∙◌}
use Rattle.std.specs.Prelude.{option_map}
use Rattle.std.specs.List.{AllByRecursion}
use Rattle.std.proofs.lemmas.List.{append-nil}
use Rattle.vt_value.specs.Values.{Row, value_at, is_null}
use Rattle.keyrange.specs.Ranges.{has_id}
use Rattle.sql_tree.specs.declared.Condition.{Condition}
use Rattle.vschema.specs.ColumnType.{ColumnType}
use Rattle.vschema.specs.declared.schema.Join.{Join}
use Rattle.vschema.specs.declared.schema.Table.{Table}
use Rattle.vschema.specs.Database.{Database, rows_of, union}
use Rattle.sql_eval.specs.Conditions.{is_kept}
use Rattle.planner.specs.declared.routes.Route.{Route}
use Rattle.planner.specs.declared.routes.Route.TheVariants as route
use Rattle.planner.specs.declared.keys.Keys.{Keys}
use Rattle.planner.specs.Routes.{kind_in, keys_of, is_held, id_of}
use Rattle.planner.specs.Plans.{is_member_of, cut_through, shard_filter, ShardRows}
use Rattle.planner.specs.Right.{rows_of_shards}
use Rattle.planner.proofs.Placed.{AreKeysHome, IsHome, key_home}
use Rattle.planner.proofs.CutTruth.{keeps}

-- the rows of a table on several shards
pub rows-union : (a b : Database) (n : ℕ) → rows_of (union a b) n ≡ rows_of a n ++ rows_of b n
rows-union [] b zero = refl
rows-union [] b (suc n) = refl
rows-union (xs ∷ a) [] zero = sym (append-nil xs)
rows-union (xs ∷ a) [] (suc n) = sym (append-nil (rows_of a n))
rows-union (xs ∷ a) (ys ∷ b) zero = refl
rows-union (xs ∷ a) (ys ∷ b) (suc n) = rows-union a b n

pub rows-all : (shards : List ShardRows) (n : ℕ) → rows_of (rows_of_shards shards) n ≡ flat_map (λ s. rows_of s.1 n) shards
rows-all [] zero = refl
rows-all [] (suc n) = refl
rows-all (s ∷ shards) n = rows-union s.1 (rows_of_shards shards) n ∙ ap (λ l. rows_of s.1 n ++ l) (rows-all shards n)

-- what a shard keeps by its piece's condition
member_kept : (t : Table) (shard : ShardRows) (row : Row) (keys : Keys) → AreKeysHome t shard row keys → (c : ℕ) (kind : ColumnType) → kind_in keys c ≡ Some kind
    → is_null (value_at row c) ≡ false → is_member_of t shard.0 kind (value_at row c) ≡ true
member_kept t shard row keys home c kind is h =
    let key = key_home t shard row keys home c kind is in
    let held : is_held kind (value_at row c) ≡ true = key.holds h in
    let inside : has_id shard.0 (id_of t (value_at row c)) ≡ true = key.lies in
    rw (held, inside) refl

cut_kept : (t : Table) (shard : ShardRows) (row : Row) (keys : Option Keys) → IsHome t keys shard row → (filter' : Option (Condition ℕ))
    → is_kept (option_map (cut_through t keys shard.0) filter') row ≡ is_kept filter' row
cut_kept t shard row keys home None = refl
cut_kept t shard row None home (Some c) = refl
cut_kept t shard row (Some keys) home (Some c) = keeps row keys (is_member_of t shard.0) (member_kept t shard row keys home) c

pub piece_kept : (t : Table) (join : Option Join) (shard : ShardRows) (row : Row) → IsHome t (keys_of t join) shard row → (r : Route) (filter' : Option (Condition ℕ))
    → is_kept (shard_filter t join r shard.0 filter') row ≡ is_kept filter' row
piece_kept t join shard row home route.Unsharded filter' = refl
piece_kept t join shard row home route.None filter' = refl
piece_kept t join shard row home (route.EqualUnique v) filter' = refl
piece_kept t join shard row home (route.In values) filter' = cut_kept t shard row (keys_of t join) home filter'
piece_kept t join shard row home route.Scatter filter' = refl

pub same_filter : (p q : Row → Bool) (rows : List Row) → AllByRecursion (λ row. p row ≡ q row) rows → filter p rows ≡ filter q rows
same_filter p q [] all = refl
same_filter p q (row ∷ rows) all = λ i. cond (all.0 i) (row ∷ same_filter p q rows all.1 i) (same_filter p q rows all.1 i)

pub no_filter : (p : Row → Bool) (rows : List Row) → AllByRecursion (λ row. p row ≡ false) rows → filter p rows ≡ []
no_filter p [] all = refl
no_filter p (row ∷ rows) all = let e = all.0 in rw e (no_filter p rows all.1)

pub all_rows_are : (P Q : Row → Type 0) → ((row : Row) → P row → Q row) → (rows : List Row) → AllByRecursion P rows → AllByRecursion Q rows
all_rows_are P Q f [] all = tt
all_rows_are P Q f (row ∷ rows) all = (f row all.0, all_rows_are P Q f rows all.1)
