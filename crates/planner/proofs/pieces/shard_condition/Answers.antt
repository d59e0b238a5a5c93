use Rattle.std.proofs.Common.{◌∙◌, sym, ap, Option, Some}
use Rattle.std.specs.Prelude.{option_map}
use Rattle.std.proofs.lemmas.Result.{IfOk-weaker}
use Rattle.vschema.specs.declared.schema.ColumnVindex.{ColumnVindex}
use Rattle.planner.specs.declared.keys.Keys.{Keys}
use Rattle.planner.specs.declared.routes.Route.{Route}
use Rattle.planner.specs.Routes.{keys_on}
use Rattle.planner.specs.Plans.{cut_of, cut_through, is_member_of, shard_filter}
use Rattle.planner.proofs.pieces.shard_condition.Goals as goal

pub returns-in-In-Some : goal.returns-in-In-Some
returns-in-In-Some c =
    record {
      ok = (let t = c.args.table.now in
          let range = c.args.range.now in
          let condition = c.args.condition.now in
          let keys = ap (option_map (λ (v : ColumnVindex). keys_on t v c.args.join)) c.in-In-Some.is-1 in
          IfOk-weaker c.cut_condition.result _ _
          (λ cut e.
          ap Some (e ∙ ap (λ (k : Keys). cut_of k (is_member_of t range) condition) c.keys_on.ensures)
          ∙ ap (λ (k : Option Keys). Some (cut_through t k range condition)) (sym keys)
          ∙ ap (λ (r : Route). shard_filter t c.args.join r range (Some condition)) (sym c.in-In-Some.is-0))
          c.cut_condition.ensures.ok);
    }
