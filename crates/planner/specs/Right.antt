-- When a plan is right: whatever the ranges and wherever the rows lie, what it may give is an answer over all rows.
use Rattle.std.specs.Prelude.{◌≡◌, ℕ, ◌^◌, ◌<◌, true, false, List, [], ◌∷◌, length, Contains, Some, None, IsSorted}
use Rattle.std.specs.List.{AllByRecursion}
use Rattle.vt_value.specs.Values.{Row}
use Rattle.keyrange.specs.declared.KeyRange.{KeyRange}
use Rattle.keyrange.specs.Ranges.{has_id}
use Rattle.operators.specs.Orders.{row_cmp}
use Rattle.vschema.specs.declared.schema.Join.{Join}
use Rattle.vschema.specs.declared.schema.Query.{Query}
use Rattle.vschema.specs.declared.schema.Table.{Table}
use Rattle.vschema.specs.declared.schema.VSchema.{VSchema}
use Rattle.vschema.specs.Storable.{is_storable}
use Rattle.vschema.specs.Database.{Database, rows_of, union, restrict}
use Rattle.vschema.specs.Sources.{source_rows, source_tables, JoinsInPlace}
use Rattle.sql_eval.specs.Conditions.{is_kept}
use Rattle.sql_eval.specs.Queries.{Allowed}
use Rattle.planner.specs.declared.plans.Plan.{Plan}
use Rattle.planner.specs.Routes.{table_at, takes}
use Rattle.planner.specs.Plans.{piece_of, ShardRows, PlanGives}

-- the rows of all shards
abbrev pub rows_of_shards : List ShardRows → Database
rows_of_shards [] = []
rows_of_shards (shard ∷ shards) = union shard.1 (rows_of_shards shards)

-- A shard may stand in the keyspace: its rows lie in its range, and the tables of these ordinals may hold each of their own.
pub record LiesInPlace (schema : VSchema) (keyspace : ℕ) (tables : List ℕ) (shard : ShardRows) : Type 0 where
  pub placed : restrict schema (record { keyspace = keyspace; range = shard.0 }) shard.1 ≡ shard.1
  pub storable : AllByRecursion (λ n. AllByRecursion (λ row. is_storable (table_at schema n) row ≡ true) (rows_of shard.1 n)) tables

-- if the plan's route takes the shard, the query is over fewer than 2^64 rows there
abbrev pub HasFewRows : Table → Plan → Query → ShardRows → Type 0
HasFewRows t p q shard = takes t p.route shard.0 ≡ true → length (source_rows q shard.1) < 2 ^ 64

-- no keyspace id lies in both ranges
abbrev pub IsApart : KeyRange → KeyRange → Type 0
IsApart a b = (id : List ℕ) → has_id a id ≡ true → has_id b id ≡ true → ⊥

-- no keyspace id lies in two of the ranges
abbrev pub AreApart : List ShardRows → Type 0
AreApart [] = Unit {0}
AreApart (shard ∷ shards) = AllByRecursion (λ (other : ShardRows). IsApart shard.0 other.0) shards × AreApart shards

-- if the query joins two tables, the shards' ranges are apart
abbrev pub JoinsApart : Query → List ShardRows → Type 0
JoinsApart q shards = (j : Join) → q.join ≡ Some j → AreApart shards

-- Each list that the plan may give over any shards is an answer over the rows of all of them; for a join the shards' ranges are apart.
abbrev pub IsRightPlan : VSchema → Query → Plan → Type 0
IsRightPlan schema q p =
    JoinsInPlace schema q → (shards : List ShardRows) → AllByRecursion (LiesInPlace schema (table_at schema q.table).keyspace (source_tables q)) shards
    → JoinsApart q shards → AllByRecursion (HasFewRows (table_at schema q.table) p q) shards
    → (list : List Row) → PlanGives (table_at schema q.table) p shards list → Allowed q (rows_of_shards shards) list

-- A shard that the plan's route skips holds no row that the query keeps.
abbrev pub SkipsNothing : VSchema → Query → Plan → Type 0
SkipsNothing schema q p =
    JoinsInPlace schema q → (shard : ShardRows) → LiesInPlace schema (table_at schema q.table).keyspace (source_tables q) shard
    → takes (table_at schema q.table) p.route shard.0 ≡ false
    → (row : Row) → Contains (source_rows q shard.1) row → is_kept q.filter row ≡ false

-- If the query isn't aggregated, each list that a shard may give for its piece is in the order of the finish's keys.
abbrev pub GivesInOrder : Table → Plan → Type 0
GivesInOrder t p =
    p.finish.grouping ≡ None → (shard : ShardRows) (list : List Row) → Allowed (piece_of t p shard.0) shard.1 list → IsSorted (row_cmp p.finish.order_by) list
