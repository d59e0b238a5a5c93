-- The plans of queries that are aggregated, and of others.
use Rattle.std.proofs.Common.{◌≡◌, ℕ, Bool, true, false, cond, List, [], ◌∷◌, Option, refl, sym, ◌∙◌}
use Rattle.std.specs.Prelude.{◌||◌}
use Rattle.std.specs.List.{list_any}
use Rattle.sql_tree.specs.declared.Condition.{Condition}
use Rattle.sql_tree.specs.declared.Item.{Item}
use Rattle.sql_tree.specs.declared.Key.{Key}
use Rattle.sql_tree.specs.declared.LimitClause.{LimitClause}
use Rattle.vschema.specs.declared.schema.Join.{Join}
use Rattle.vschema.specs.declared.schema.Query.{Query}
use Rattle.vschema.specs.declared.schema.Table.{Table}
use Rattle.vschema.specs.Checks.{is_aggregate, is_aggregated}
use Rattle.planner.specs.declared.plans.Plan.{Plan}
use Rattle.planner.specs.Routes.{route_of}
use Rattle.planner.specs.Plans.{pushed_rows, pushed_groups, rows_finish, groups_finish, planned}

has_any : List ℕ → Bool
has_any [] = false
has_any (n ∷ ns) = true

by_fields : (table : ℕ) (join : Option Join) (items : List (Item ℕ)) (qualified : List Bool) (filter' : Option (Condition ℕ)) (group_by : List ℕ) (order_by : List (Key ℕ)) (limit : Option LimitClause)
    → is_aggregated (record { table = table; join = join; items = items; qualified = qualified; filter = filter'; group_by = group_by; order_by = order_by; limit = limit })
    ≡ (list_any is_aggregate items || has_any group_by)
unfolding has_any
by_fields table join items qualified filter' [] order_by limit = refl
by_fields table join items qualified filter' (n ∷ ns) order_by limit = refl

aggregated_is : (q : Query) → is_aggregated q ≡ (list_any is_aggregate q.items || has_any q.group_by)
aggregated_is q = by_fields q.table q.join q.items q.qualified q.filter q.group_by q.order_by q.limit

-- queries whose items have aggregates alike, with the same GROUP BY
pub same_aggregated : (a b : Query) → list_any is_aggregate a.items ≡ list_any is_aggregate b.items → a.group_by ≡ b.group_by → is_aggregated a ≡ is_aggregated b
same_aggregated a b items groups = aggregated_is a ∙ (λ i. items i || has_any (groups i)) ∙ sym (aggregated_is b)

abbrev pub rows_plan : Table → Query → Plan
rows_plan t q = record { route = route_of t q.join q.filter; piece = pushed_rows q; finish = rows_finish q; items = q.items; qualified = q.qualified }

abbrev pub groups_plan : Table → Query → Plan
groups_plan t q = record { route = route_of t q.join q.filter; piece = pushed_groups q; finish = groups_finish q; items = q.items; qualified = q.qualified }

pub planned_rows : (t : Table) (q : Query) → is_aggregated q ≡ false → planned t q ≡ rows_plan t q
planned_rows t q e = λ i. record {
  route = route_of t q.join q.filter;
  piece = cond (e i) (pushed_groups q) (pushed_rows q);
  finish = cond (e i) (groups_finish q) (rows_finish q);
  items = q.items;
  qualified = q.qualified;
}

pub planned_groups : (t : Table) (q : Query) → is_aggregated q ≡ true → planned t q ≡ groups_plan t q
planned_groups t q e = λ i. record {
  route = route_of t q.join q.filter;
  piece = cond (e i) (pushed_groups q) (pushed_rows q);
  finish = cond (e i) (groups_finish q) (rows_finish q);
  items = q.items;
  qualified = q.qualified;
}
