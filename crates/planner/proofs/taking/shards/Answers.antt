use Rattle.std.proofs.Common.{◌≡◌, ℕ, List, [], ◌∷◌, ◌&&◌, filter, map, refl, ap, ◌∙◌, arith}
use Rattle.std.proofs.lemmas.Grind.{common_steps}
use Rattle.std.specs.Prelude.{zip}
use Rattle.keyrange.specs.declared.KeyRange.{KeyRange}
use Rattle.vschema.specs.declared.schema.Table.{Table}
use Rattle.vschema.specs.Resolved.{ordinals_from}
use Rattle.planner.specs.declared.routes.Route.{Route}
use Rattle.planner.specs.declared.routes.Route.TheVariants.{Unsharded}
use Rattle.planner.specs.Routes.{is_sharded, takes, taken_ordinals}
use Rattle.planner.proofs.taking.shards.Goals as goal

none_taken : (t : Table) (ranges : List (ℕ × KeyRange)) → map (λ p. p.0) (filter (λ p. is_sharded Unsharded && takes t Unsharded p.1) ranges) ≡ []
none_taken t [] = refl
none_taken t (range ∷ ranges) = none_taken t ranges

pub returns-clause-unsharded : goal.returns-clause-unsharded
returns-clause-unsharded c = λ unsharded.
    let t = c.args.table.now in
    let ranges = c.args.ranges.now in
    let all : c.loop-ordinal.ordinals.items ≡ taken_ordinals t c.args.route.now ranges = grind (arith, common_steps) in
    all ∙ ap (λ (r : Route). taken_ordinals t r ranges) unsharded ∙ none_taken t (zip (ordinals_from 0 ranges) ranges)
