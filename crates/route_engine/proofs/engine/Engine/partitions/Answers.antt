use Rattle.std.proofs.Common.{ℕ, List, length, sym, ap, subst, ◌∙◌}
use Rattle.std.specs.List.{range_with_len}
use Rattle.std.specs.Slice.{IsItemAt}
use Rattle.vschema.specs.declared.schema.VSchema.{VSchema}
use Rattle.route_engine.proofs.Homes.{is_there, is_own}
use Rattle.route_engine.proofs.engine.Engine.partitions.Goals as goal

pub returns-clause-there : goal.returns-clause-there
returns-clause-there g c =
    is_there c.self.inside.keyspaces.items (length c.args.self.now.keyspaces) c.args.keyspace
    (c.self.invariant.each ∙ ap (λ (v : VSchema). range_with_len 0 (length v.keyspaces)) (sym c.self.invariant.schema_is ∙ c.self.view_is)) c.get.result
    (subst (λ (l : List ℕ). IsItemAt l c.args.keyspace c.get.result) c.as_slice.ensures.value c.get.ensures.lookup)

pub returns-clause-of : goal.returns-clause-of
returns-clause-of g c =
    is_own c.self.inside.keyspaces.items (length c.args.self.now.keyspaces) c.args.keyspace
    (c.self.invariant.each ∙ ap (λ (v : VSchema). range_with_len 0 (length v.keyspaces)) (sym c.self.invariant.schema_is ∙ c.self.view_is)) c.get.result
    (subst (λ (l : List ℕ). IsItemAt l c.args.keyspace c.get.result) c.as_slice.ensures.value c.get.ensures.lookup)
