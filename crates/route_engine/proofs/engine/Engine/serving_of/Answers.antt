use Rattle.std.proofs.Common.{◌≡◌, length, sym, ap, ◌∙◌, arith}
use Rattle.std.specs.List.{range_with_len}
use Rattle.std.proofs.lemmas.List.FromFn.{length-range_with_len}
use Rattle.vschema.specs.declared.schema.VSchema.{VSchema}
use Rattle.route_engine.proofs.Homes.{at_its_ordinal}
use Rattle.route_engine.proofs.engine.Engine.serving_of.Goals as goal

pub index-requires : goal.index-requires
index-requires g c =
    let n = length c.args.self.now.keyspaces in
    let each = c.self.invariant.each ∙ ap (λ (v : VSchema). range_with_len 0 (length v.keyspaces)) (sym c.self.invariant.schema_is ∙ c.self.view_is) in
    let long : length c.self.inside.keyspaces.items ≡ n = ap length each ∙ length-range_with_len 0 n in
    let count = c.self.inside.keyspaces.ok.0 in
    let below = c.requires in
    omega (arith, below, count, long)

pub returns : goal.returns
returns g c =
    let n = length c.args.self.now.keyspaces in
    let each = c.self.invariant.each ∙ ap (λ (v : VSchema). range_with_len 0 (length v.keyspaces)) (sym c.self.invariant.schema_is ∙ c.self.view_is) in
    at_its_ordinal c.self.inside.keyspaces.items n c.args.keyspace each c.requires c.index.result.now c.index.ensures
