-- The route of a statement: the shards that it needs, by its condition, as Vitess routes EqualUnique, IN and Scatter.
-- The conjuncts of a condition are the members of its AND, nested ANDs opened, from the left.
use Rattle.std.specs.Prelude.{ℕ, Bool, true, false, not, ◌&&◌, ◌||◌, ◌==◌, List, [], ◌∷◌, map, filter, flat_map, zip, Option, Some, None, option_map, if◌then◌else◌}
use Rattle.std.specs.List.{list_any, list_all}
use Rattle.vt_value.specs.declared.value.Value.{Value}
use Rattle.vt_value.specs.declared.value.Comparison.{Comparison}
use Rattle.vt_value.specs.declared.value.Comparison.TheVariants.{Eq}
use Rattle.vt_value.specs.Values.{Row, value_at, is_null}
use Rattle.keyrange.specs.declared.KeyRange.{KeyRange}
use Rattle.keyrange.specs.Ranges.{has_id}
use Rattle.vindex.specs.KeyspaceIds.{keyspace_id, is_key}
use Rattle.sql_tree.specs.declared.Operand.{Operand}
use Rattle.sql_tree.specs.declared.Operand.TheVariants.{Column, Literal}
use Rattle.sql_tree.specs.declared.Condition.{Condition, Condition-F, fold-Condition}
use Rattle.sql_tree.specs.declared.Condition.TheOpen.{Compare, In, IsNull, Not, And, Or}
use Rattle.vschema.specs.declared.schema.Table.{Table}
use Rattle.vschema.specs.declared.schema.VSchema.{VSchema}
use Rattle.vschema.specs.ColumnType.{ColumnType}
use Rattle.vschema.specs.declared.schema.ColumnVindex.{ColumnVindex}
use Rattle.vschema.specs.declared.schema.Join.{Join}
use Rattle.vschema.specs.declared.changes.Write.{Write}
use Rattle.vschema.specs.declared.changes.Write.TheVariants.{Insert, Update, Delete}
pub use Rattle.vschema.specs.Schema.{table_at}
pub use Rattle.vschema.specs.Sources.{type_at}
use Rattle.vschema.specs.Resolved.{ordinals_from}
use Rattle.vschema.specs.WriteChecks.{is_out_of_range, is_too_long}
use Rattle.planner.specs.declared.keys.KeyColumn.{KeyColumn}
use Rattle.planner.specs.declared.keys.Keys.{Keys}
use Rattle.planner.specs.declared.routes.Route.{Route}
use Rattle.planner.specs.declared.routes.Route.TheVariants as route

abbrev pub is_null_literal : Operand ℕ → Bool
is_null_literal (Column c) = false
is_null_literal (Literal v) = is_null v

-- A conjunct can't be true: it compares something with the literal NULL, or is an IN whose members are all NULL.
abbrev pub node_never : Condition-F ℕ Bool → Bool
node_never (Compare op a b) = is_null_literal a || is_null_literal b
node_never (In a members) = list_all is_null members
node_never (IsNull a) = false
node_never (Not n) = false
node_never (And ns) = list_any (λ n. n) ns
node_never (Or ns) = false

abbrev pub is_never : Condition ℕ → Bool
is_never c = fold-Condition ℕ Bool node_never c

abbrev pub is_equality : Comparison → Bool
is_equality Eq = true
is_equality _ = false

abbrev pub second_kind : Option KeyColumn → ℕ → Option ColumnType
second_kind None c = None
second_kind (Some k) c = if k.column == c then Some k.kind else None

-- the type of a column, if its value decides the shard of a row
abbrev pub kind_in : Keys → ℕ → Option ColumnType
kind_in keys c = if keys.first.column == c then Some keys.first.kind else second_kind keys.second c

abbrev pub of_kind : {X : Type 0} → Option ColumnType → X → List (ColumnType × X)
of_kind None x = []
of_kind (Some kind) x = (kind, x) ∷ []

-- the literal that is compared with a deciding column, with the column's type
abbrev pub literal_with : Keys → Operand ℕ → Operand ℕ → List (ColumnType × Value)
literal_with keys (Column c) (Literal x) = of_kind (kind_in keys c) x
literal_with keys (Literal x) (Column c) = of_kind (kind_in keys c) x
literal_with keys (Column c) (Column d) = []
literal_with keys (Literal x) (Literal y) = []

-- the literals of the conjuncts `column = literal` and `literal = column`
abbrev pub node_equals : Keys → Condition-F ℕ (List (ColumnType × Value)) → List (ColumnType × Value)
node_equals keys (Compare op a b) = if is_equality op then literal_with keys a b else []
node_equals keys (In a members) = []
node_equals keys (IsNull a) = []
node_equals keys (Not literals) = []
node_equals keys (And literals) = flat_map (λ l. l) literals
node_equals keys (Or literals) = []

abbrev pub equals : Keys → Condition ℕ → List (ColumnType × Value)
equals keys c = fold-Condition ℕ (List (ColumnType × Value)) (node_equals keys) c

abbrev pub members_with : Keys → Operand ℕ → List Value → List (ColumnType × List Value)
members_with keys (Column c) members = of_kind (kind_in keys c) members
members_with keys (Literal x) members = []

-- the members of the conjuncts `column IN (..)`
abbrev pub node_among : Keys → Condition-F ℕ (List (ColumnType × List Value)) → List (ColumnType × List Value)
node_among keys (Compare op a b) = []
node_among keys (In a members) = members_with keys a members
node_among keys (IsNull a) = []
node_among keys (Not lists) = []
node_among keys (And lists) = flat_map (λ l. l) lists
node_among keys (Or lists) = []

abbrev pub among : Keys → Condition ℕ → List (ColumnType × List Value)
among keys c = fold-Condition ℕ (List (ColumnType × List Value)) (node_among keys) c

abbrev pub first_of : {X : Type 0} → List X → Option X
first_of [] = None
first_of (x ∷ xs) = Some x

-- a value that a column of the type may hold
abbrev pub is_held : ColumnType → Value → Bool
is_held kind v = not (is_null v || is_out_of_range kind v || is_too_long kind v)

abbrev pub route_among : List Value → Route
route_among [] = route.None
route_among (v ∷ values) = route.In (v ∷ values)

-- the leftmost literal decides, and without one the members of the leftmost IN
abbrev pub route_by : Option (ColumnType × Value) → Option (ColumnType × List Value) → Route
route_by (Some p) lists = if is_held p.0 p.1 then route.EqualUnique p.1 else route.None
route_by None (Some p) = route_among (filter (is_held p.0) p.1)
route_by None None = route.Scatter

-- the rules in their order, for rows of which these columns decide the shard
abbrev pub sharded_route : Keys → Condition ℕ → Route
sharded_route keys c =
    if is_never c then route.None else route_by (first_of (equals keys c)) (first_of (among keys c))

abbrev pub filter_route : Keys → Option (Condition ℕ) → Route
filter_route keys None = route.Scatter
filter_route keys (Some c) = sharded_route keys c

abbrev pub second_key : Join → KeyColumn
second_key j = record { column = j.second; kind = j.kind }

abbrev pub keys_on : Table → ColumnVindex → Option Join → Keys
keys_on t v join = record { first = record { column = v.column; kind = type_at t v.column }; second = option_map second_key join }

-- the columns that decide the shard of a table's rows: the vindex column, and in the pairs of a join that of either table
abbrev pub keys_of : Table → Option Join → Option Keys
keys_of t join = option_map (λ v. keys_on t v join) t.vindex

abbrev pub route_through : Option Keys → Option (Condition ℕ) → Route
route_through None filter' = route.Unsharded
route_through (Some keys) filter' = filter_route keys filter'

-- the route of a query, an UPDATE or a DELETE
abbrev pub route_of : Table → Option Join → Option (Condition ℕ) → Route
route_of t join filter' = route_through (keys_of t join) filter'

abbrev pub rows_route : Option ColumnVindex → List Row → Route
rows_route None rows = route.Unsharded
rows_route (Some v) rows = route.In (map (λ row. value_at row v.column) rows)

-- an INSERT goes to the shards of its rows
abbrev pub insert_route : Table → List Row → Route
insert_route t rows = rows_route t.vindex rows

abbrev pub write_route : VSchema → Write → Route
write_route schema (Insert n rows) = insert_route (table_at schema n) rows
write_route schema (Update n assignments filter') = route_of (table_at schema n) None filter'
write_route schema (Delete n filter') = route_of (table_at schema n) None filter'

-- the keyspace id of a value of the vindex column, which is empty for a value that no key column holds
abbrev pub id_by : Option ColumnVindex → Value → List ℕ
id_by None x = []
id_by (Some v) x = if is_key v.vindex x then keyspace_id v.vindex x else []

abbrev pub id_of : Table → Value → List ℕ
id_of t x = id_by t.vindex x

-- Whether the route takes the shard of a range. All rows of an unsharded table have the empty keyspace id, which one range of a partition holds.
abbrev pub takes : Table → Route → KeyRange → Bool
takes t route.Unsharded range = has_id range []
takes t route.None range = false
takes t (route.EqualUnique v) range = has_id range (id_of t v)
takes t (route.In values) range = list_any (λ v. has_id range (id_of t v)) values
takes t route.Scatter range = true

-- whether a route is to the sharded keyspace
abbrev pub is_sharded : Route → Bool
is_sharded route.Unsharded = false
is_sharded route.None = true
is_sharded (route.EqualUnique v) = true
is_sharded (route.In values) = true
is_sharded route.Scatter = true

-- The ordinals of the sharded keyspace's ranges that the route takes, in their order. The shard of the unsharded keyspace is none of them.
abbrev pub taken_ordinals : Table → Route → List KeyRange → List ℕ
taken_ordinals t r ranges =
    map (λ p. p.0) (filter (λ p. is_sharded r && takes t r p.1) (zip (ordinals_from 0 ranges) ranges))
