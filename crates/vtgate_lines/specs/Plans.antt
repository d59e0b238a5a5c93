-- The line of a plan: the name of the statement's route, and each shard that it has, in range order.
use Rattle.std.specs.Prelude.{◌≡◌, ℕ, ◌==◌, List, [], ◌++◌, length, flat_map, codes, slice_get, Option, Some, None, Ok, Err, if◌then◌else◌}
use Rattle.vt_value.specs.declared.refusal.Refusal.{Refusal}
use Rattle.vt_value.specs.declared.refusal.Refusal.TheVariants.{OutOfMemory, SyntaxError}
use Rattle.keyrange.specs.declared.KeyRange.{KeyRange}
use Rattle.keyrange.specs.Names.{range_text}
use Rattle.sql_tree.specs.declared.Statement.{Statement}
use Rattle.sql_parser.specs.Grammar.{Reads}
use Rattle.planner.specs.Table.{Table}
use Rattle.planner.specs.VSchema.{VSchema}
use Rattle.planner.specs.Typed.{Typed}
use Rattle.planner.specs.Typed.TheVariants.{Select, Write, Begin, Commit, Rollback, SetNames}
use Rattle.planner.specs.Write as W
use Rattle.planner.specs.Write.TheVariants.{Insert, Update, Delete}
use Rattle.planner.specs.TypedStatement.{typed_statement}
use Rattle.planner.specs.declared.routes.Route.{Route}
use Rattle.planner.specs.declared.routes.Route.TheVariants as route
use Rattle.planner.specs.Routes.{table_at, route_of, insert_route, taken_ordinals}
use Rattle.vtgate_lines.specs.Printed.{line}

-- the name of a query's route, of an UPDATE's or of a DELETE's
abbrev pub route_name : Route → List ℕ
route_name route.Unsharded = codes "Unsharded"
route_name route.None = codes "None"
route_name (route.EqualUnique v) = codes "EqualUnique"
route_name (route.In values) = codes "IN"
route_name route.Scatter = codes "Scatter"

-- the name of an INSERT's route, by how many shards its rows have
abbrev pub insert_name : Route → ℕ → List ℕ
insert_name (route.In values) shards = if shards == 1 then codes "EqualUnique" else codes "IN"
insert_name route.Unsharded shards = route_name route.Unsharded
insert_name route.None shards = route_name route.None
insert_name (route.EqualUnique v) shards = route_name (route.EqualUnique v)
insert_name route.Scatter shards = route_name route.Scatter

-- the name of the range at an ordinal, after a blank
abbrev pub range_word : Option KeyRange → List ℕ
range_word None = []
range_word (Some range) = codes " " ++ range_text range

-- the shards of a route: the one of the unsharded keyspace is 0
abbrev pub shards_text : Route → List KeyRange → List ℕ → List ℕ
shards_text route.Unsharded ranges ordinals = codes " 0"
shards_text route.None ranges ordinals = flat_map (λ n. range_word (slice_get ranges n)) ordinals
shards_text (route.EqualUnique v) ranges ordinals = flat_map (λ n. range_word (slice_get ranges n)) ordinals
shards_text (route.In values) ranges ordinals = flat_map (λ n. range_word (slice_get ranges n)) ordinals
shards_text route.Scatter ranges ordinals = flat_map (λ n. range_word (slice_get ranges n)) ordinals

abbrev pub plan_text : List ℕ → Route → List KeyRange → List ℕ → List ℕ
plan_text name r ranges ordinals = line (name ++ codes ":" ++ shards_text r ranges ordinals)

abbrev pub routed_text : Table → List KeyRange → Route → List ℕ
routed_text t ranges r = plan_text (route_name r) r ranges (taken_ordinals t r ranges)

abbrev pub inserted_text : Table → List KeyRange → Route → List ℕ
inserted_text t ranges r = plan_text (insert_name r (length (taken_ordinals t r ranges))) r ranges (taken_ordinals t r ranges)

abbrev pub write_text : VSchema → List KeyRange → W.Write → List ℕ
write_text schema ranges (Insert n rows) = inserted_text (table_at schema n) ranges (insert_route (table_at schema n) rows)
write_text schema ranges (Update n assignments filter') = routed_text (table_at schema n) ranges (route_of (table_at schema n) None filter')
write_text schema ranges (Delete n filter') = routed_text (table_at schema n) ranges (route_of (table_at schema n) None filter')

-- the line of a statement with its names resolved; one without a table has no shard
abbrev pub typed_text : VSchema → List KeyRange → Typed → List ℕ
typed_text schema ranges (Select q) = routed_text (table_at schema q.table) ranges (route_of (table_at schema q.table) q.join q.filter)
typed_text schema ranges (Write w) = write_text schema ranges w
typed_text schema ranges Begin = line (codes "None:")
typed_text schema ranges Commit = line (codes "None:")
typed_text schema ranges Rollback = line (codes "None:")
typed_text schema ranges SetNames = line (codes "None:")

-- the text is a statement under the VSchema, and this is its line
pub record IsPlanLine (schema : VSchema) (ranges : List KeyRange) (text printed : List ℕ) : Type 0 where
  pub statement : Statement
  pub typed : Typed
  pub reads : Reads text statement
  pub resolved : typed_statement schema statement ≡ Ok typed
  pub line : printed ≡ typed_text schema ranges typed

-- why a text has no line: a growth was refused, it has no tree, or its tree is refused under the VSchema
pub data IsPlanRefusal (schema : VSchema) (text : List ℕ) : Refusal → Type 0 where
  no_memory : IsPlanRefusal schema text OutOfMemory
  no_tree : ((statement : Statement) → Reads text statement → ⊥) → IsPlanRefusal schema text SyntaxError
  not_typed : {r : Refusal} (statement : Statement) → Reads text statement → typed_statement schema statement ≡ Err r → IsPlanRefusal schema text r
