use Rattle.std.proofs.Common.{◌≡◌, ◌<◌, List, get_or, length, sym, ap, subst, ◌∙◌, arith}
use Rattle.std.proofs.lemmas.Result.{err_from_is_err_and}
use Rattle.route_engine.proofs.Doing as d
use Rattle.vschema.specs.declared.schema.Query.{Query}
use Rattle.vschema.specs.declared.schema.Table.{Table}
use Rattle.vschema.specs.declared.schema.VSchema.{VSchema}
use Rattle.vschema.specs.declared.schema.Typed.TheVariants as typed
use Rattle.route_engine.proofs.Formed.{keyspace_below}
use Rattle.route_engine.proofs.Selecting.{is_table}
use Rattle.route_engine.proofs.engine.Engine.rows_in.Goals as goal

pub returns-in_err-route-clause-err : goal.returns-in_err-route-clause-err
returns-in_err-route-clause-err g c =
    let p = err_from_is_err_and c.from_residual.result c.from_residual.ensures.1 in
    rw (p.1, p.2) (d.without_memory g.W.World.opening g.W.World.limits c.args.pass.now c.requires.ready c.args.tx.now (typed.Select c.args.query.now))

pub rows_by-given-requires-clause-keyspace : goal.rows_by-given-requires-clause-keyspace
rows_by-given-requires-clause-keyspace g c κs within =
    let o = g.W.World.opening in
    let there = subst (λ (v : VSchema). c.args.query.now.table < length v.tables) (sym c.self.invariant.schema_is) c.requires.there.0 in
    let t = is_table o c.self.inside.schema c.self.invariant.schema_is (c.args.query.now.table) there c.index-as_slice-narrow.result
    (c.index-as_slice-narrow.is ∙ ap (λ (l : List Table). get_or l c.query-narrow.result.now.table c.index-as_slice-narrow.result) c.as_slice.ensures
    ∙ ap (λ (v : Query). get_or c.self.inside.schema.tables v.table c.index-as_slice-narrow.result) c.query-narrow.ensures) in
    let below = keyspace_below o.schema c.self.invariant.formed (c.args.query.now.table) in
    let schema : c.args.self.now ≡ o.schema = sym c.self.view_is ∙ c.self.invariant.schema_is in
    let n = ap (λ (x : Table). x.keyspace) t in
    let m = ap (λ (v : VSchema). length v.keyspaces) schema in
    omega (arith, below, n, m)
