-- Plans are right.
use Rattle.std.proofs.Common.{◌≡◌, Bool, true, false, refl, sym, subst, ◌∙◌}
use Rattle.vschema.specs.declared.schema.Query.{Query}
use Rattle.vschema.specs.declared.schema.VSchema.{VSchema}
use Rattle.vschema.specs.Checks.{is_aggregated}
use Rattle.planner.specs.declared.plans.Plan.{Plan}
use Rattle.planner.specs.Routes.{table_at}
use Rattle.planner.specs.Plans.{planned}
use Rattle.planner.specs.Right.{IsRightPlan}
use Rattle.planner.proofs.Aggregated.{planned_rows, planned_groups}
use Rattle.planner.proofs.GroupRights.{groups_right}
use Rattle.planner.proofs.RowRights.{rows_right}

pub rights : (schema : VSchema) (q : Query) (p : Plan) → p ≡ planned (table_at schema q.table) q → IsRightPlan schema q p
rights schema q p is joins = by (is_aggregated q) refl joins
  where
    by : (b : Bool) → is_aggregated q ≡ b → IsRightPlan schema q p
    by true e = subst (IsRightPlan schema q) (sym (is ∙ planned_groups (table_at schema q.table) q e)) (groups_right schema q joins e)
    by false e = subst (IsRightPlan schema q) (sym (is ∙ planned_rows (table_at schema q.table) q e)) (rows_right schema q joins e)
