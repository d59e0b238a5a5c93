-- A plan, and what it may give: each shard of the route answers its piece over its own rows, and the answer is the finish
-- applied to these answers.
use Rattle.std.specs.Prelude.{ℕ, ◌+◌, ◌-◌, ◌^◌, min, Bool, ◌&&◌, List, [], ◌∷◌, ◌++◌, length, map, filter, flat_map, Option, Some, None, option_map, is_some, if◌then◌else◌, ⊤}
use Rattle.vt_value.specs.declared.value.Value.{Value}
use Rattle.vt_value.specs.Values.{Row}
use Rattle.sql_tree.specs.declared.Item.{Item}
use Rattle.sql_tree.specs.declared.Item.TheVariants as item
use Rattle.sql_tree.specs.declared.Key.{Key}
use Rattle.sql_tree.specs.declared.LimitClause.{LimitClause}
use Rattle.sql_tree.specs.declared.Operand.{Operand}
use Rattle.sql_tree.specs.declared.Operand.TheVariants.{Column, Literal}
use Rattle.sql_tree.specs.declared.Condition as N
use Rattle.sql_tree.specs.declared.Condition.{Condition, Condition-F, fold-Condition}
use Rattle.sql_tree.specs.declared.Condition.TheOpen.{Compare, In, IsNull, Not, And, Or}
use Rattle.keyrange.specs.declared.KeyRange.{KeyRange}
use Rattle.keyrange.specs.Ranges.{has_id}
use Rattle.vschema.specs.ColumnType.{ColumnType}
use Rattle.vschema.specs.declared.schema.Join.{Join}
use Rattle.vschema.specs.declared.schema.Query.{Query}
use Rattle.vschema.specs.declared.schema.Table.{Table}
use Rattle.vschema.specs.Resolved.{ordinals_from}
use Rattle.vschema.specs.Database.{Database}
use Rattle.sql_eval.specs.AggregateGroups.{AreSummable}
use Rattle.vschema.specs.Checks.{is_aggregated}
use Rattle.sql_eval.specs.declared.groups.Grouping.{Grouping}
use Rattle.sql_eval.specs.Grouping.{aggregates_of, grouping_of, group_columns, group_order, grouped, IsSortedSlice}
use Rattle.sql_eval.specs.Queries.{Allowed}
use Rattle.planner.specs.declared.keys.Keys.{Keys}
use Rattle.planner.specs.declared.routes.Route.{Route}
use Rattle.planner.specs.declared.routes.Route.TheVariants as route
use Rattle.planner.specs.declared.plans.Finish.{Finish}
use Rattle.planner.specs.declared.plans.Plan.{Plan}
use Rattle.planner.specs.Routes.{kind_in, among, first_of, keys_of, route_of, is_held, id_of, takes}

-- a limit as each shard gets it: as many rows as the whole answer may need, the offset's too, at most 2^64 - 1
abbrev pub pushed_limit : LimitClause → LimitClause
pushed_limit l = record { count = min (l.offset + l.count) (2 ^ 64 - 1); offset = 0 }

abbrev pub key_item : Key ℕ → Item ℕ
key_item k = item.Column k.column

-- The query as each shard gets it if it isn't aggregated. It shows the query's columns, and after them those of its sort keys.
abbrev pub pushed_rows : Query → Query
pushed_rows q = record q { items = q.items ++ map key_item q.order_by; limit = option_map pushed_limit q.limit }

-- If it is, a shard gives each of its groups: the columns of GROUP BY, and after them the aggregates. It has no order and no limit.
abbrev pub pushed_groups : Query → Query
pushed_groups q = record q { items = map item.Column q.group_by ++ aggregates_of q.items; order_by = []; limit = None }

abbrev pub pushed : Query → Query
pushed q = if is_aggregated q then pushed_groups q else pushed_rows q

-- the keys, by the ordinals of their columns in the pieces' rows, from an ordinal on
abbrev pub keys_from : ℕ → List (Key ℕ) → List (Key ℕ)
keys_from n [] = []
keys_from n (k ∷ keys) = record { column = n; descending = k.descending } ∷ keys_from (n + 1) keys

-- the finish of a query: its order, its limit, and the columns that it shows
abbrev pub rows_finish : Query → Finish
rows_finish q = record {
  grouping = None;
  columns = ordinals_from 0 q.items;
  order_by = keys_from (length q.items) q.order_by;
  limit = q.limit;
}

-- if it is aggregated, the groups of the pieces are joined before
abbrev pub groups_finish : Query → Finish
groups_finish q = record { grouping = Some (grouping_of q); columns = group_columns q; order_by = group_order q; limit = q.limit }

abbrev pub finish_of : Query → Finish
finish_of q = if is_aggregated q then groups_finish q else rows_finish q

abbrev pub planned : Table → Query → Plan
planned t q = record { route = route_of t q.join q.filter; piece = pushed q; finish = finish_of q; items = q.items; qualified = q.qualified }

-- whether an IN on a deciding column is one of the conjuncts
abbrev pub has_among : Keys → Condition ℕ → Bool
has_among keys c = is_some (first_of (among keys c))

-- a condition, and what the cut makes of it
pub record Cut : Type 0 where
  pub whole : Condition ℕ
  pub cut : Condition ℕ

abbrev pub uncut : Condition ℕ → Cut
uncut c = record { whole = c; cut = c }

-- the members of an AND: of those that have such an IN, the leftmost alone is cut
abbrev pub first_cut : Keys → List Cut → List (Condition ℕ)
first_cut keys [] = []
first_cut keys (c ∷ cuts) =
    if has_among keys c.whole then c.cut ∷ map (λ d. d.whole) cuts else c.whole ∷ first_cut keys cuts

abbrev pub cut_members : Option ColumnType → (ColumnType → Value → Bool) → List Value → List Value
cut_members None kept members = members
cut_members (Some kind) kept members = filter (kept kind) members

abbrev pub cut_in : Keys → (ColumnType → Value → Bool) → Operand ℕ → List Value → Condition ℕ
cut_in keys kept (Column c) members = N.In (Column c) (cut_members (kind_in keys c) kept members)
cut_in keys kept (Literal x) members = N.In (Literal x) members

abbrev pub node_cut : Keys → (ColumnType → Value → Bool) → Condition-F ℕ Cut → Cut
node_cut keys kept (Compare op a b) = uncut (N.Compare op a b)
node_cut keys kept (In a members) = record { whole = N.In a members; cut = cut_in keys kept a members }
node_cut keys kept (IsNull a) = uncut (N.IsNull a)
node_cut keys kept (Not c) = uncut (N.Not c.whole)
node_cut keys kept (And cuts) = record { whole = N.And (map (λ c. c.whole) cuts); cut = N.And (first_cut keys cuts) }
node_cut keys kept (Or cuts) = uncut (N.Or (map (λ c. c.whole) cuts))

abbrev pub cut_by : Keys → (ColumnType → Value → Bool) → Condition ℕ → Cut
cut_by keys kept c = fold-Condition ℕ Cut (node_cut keys kept) c

-- the condition with the members of the leftmost conjunct `column IN (..)` on a deciding column cut to those that pass a test
abbrev pub cut_of : Keys → (ColumnType → Value → Bool) → Condition ℕ → Condition ℕ
cut_of keys kept c = (cut_by keys kept c).cut

-- the members that lie in the range, of those that a column of the type may hold
abbrev pub is_member_of : Table → KeyRange → ColumnType → Value → Bool
is_member_of t range kind x = is_held kind x && has_id range (id_of t x)

abbrev pub cut_through : Table → Option Keys → KeyRange → Condition ℕ → Condition ℕ
cut_through t None range c = c
cut_through t (Some keys) range c = cut_of keys (is_member_of t range) c

-- Each shard gets the whole condition. Under IN the members of that conjunct are cut to the shard's own.
abbrev pub shard_filter : Table → Option Join → Route → KeyRange → Option (Condition ℕ) → Option (Condition ℕ)
shard_filter t join (route.In values) range filter' = option_map (cut_through t (keys_of t join) range) filter'
shard_filter t join route.Unsharded range filter' = filter'
shard_filter t join route.None range filter' = filter'
shard_filter t join (route.EqualUnique v) range filter' = filter'
shard_filter t join route.Scatter range filter' = filter'

-- the piece of the shard with this range
abbrev pub piece_of : Table → Plan → KeyRange → Query
piece_of t p range = record p.piece { filter = shard_filter t p.piece.join p.route range p.piece.filter }

-- the pieces' rows, or the groups that they make up
abbrev pub joined_by : Option Grouping → List Row → List Row
joined_by None rows = rows
joined_by (Some g) rows = grouped g rows

-- the finish: these rows in an order that the keys allow, their slice, and the columns of the answer
abbrev pub Finishes : Finish → List Row → List Row → Type 0
Finishes f rows list = IsSortedSlice f.order_by f.limit f.columns (joined_by f.grouping rows) list

-- the counts and sums of the pieces' groups fit
abbrev pub CanJoin : Option Grouping → List Row → Type 0
CanJoin None rows = ⊤
CanJoin (Some g) rows = AreSummable g.width rows

-- a shard: its range, and the database of its rows
abbrev pub ShardRows : Type 0
ShardRows = KeyRange × Database

-- a list for each shard, which its own rows allow its piece
abbrev pub Pieces : Table → Plan → List ShardRows → List (List Row) → Type 0
Pieces t p [] [] = Unit {0}
Pieces t p [] (list ∷ lists) = ⊥
Pieces t p (shard ∷ shards) [] = ⊥
Pieces t p (shard ∷ shards) (list ∷ lists) = Allowed (piece_of t p shard.0) shard.1 list × Pieces t p shards lists

-- the shards that the route has
abbrev pub routed : Table → Plan → List ShardRows → List ShardRows
routed t p shards = filter (λ shard. takes t p.route shard.0) shards

-- what the plan may give over these shards
abbrev pub PlanGives : Table → Plan → List ShardRows → List Row → Type 0
PlanGives t p shards list =
    (lists : List (List Row)) × Pieces t p (routed t p shards) lists × Finishes p.finish (flat_map (λ l. l) lists) list
