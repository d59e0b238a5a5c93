use Rattle.std.proofs.Common.{◌≡◌, ◌<◌, List, get_or, length, sym, ap, subst, ◌∙◌, arith}
use Rattle.route_engine.proofs.Doing as d
use Rattle.vschema.specs.declared.schema.Table.{Table}
use Rattle.vschema.specs.declared.schema.VSchema.{VSchema}
use Rattle.vschema.specs.declared.schema.Typed.TheVariants as typed
use Rattle.route_engine.proofs.Formed.{keyspace_below}
use Rattle.route_engine.proofs.Selecting.{is_table}
use Rattle.shard_contents.specs.Writes.{written_table}
use Rattle.route_engine.proofs.engine.Engine.write_in.Goals as goal

pub count_by-count-requires-clause-keyspace : goal.count_by-count-requires-clause-keyspace
count_by-count-requires-clause-keyspace g c κs within =
    let o = g.W.World.opening in
    let there = subst (λ (v : VSchema). written_table c.args.write < length v.tables) (sym c.self.invariant.schema_is) c.requires.there in
    let t = is_table o c.self.inside.schema c.self.invariant.schema_is (written_table c.args.write) there c.index-as_slice-written_table.result
    (c.index-as_slice-written_table.is ∙ ap (λ (l : List Table). get_or l c.written_table.result c.index-as_slice-written_table.result) c.as_slice.ensures
    ∙ ap (λ n. get_or c.self.inside.schema.tables n c.index-as_slice-written_table.result) c.written_table.ensures) in
    let below = keyspace_below o.schema c.self.invariant.formed (written_table c.args.write) in
    let schema : c.args.self.now ≡ o.schema = sym c.self.view_is ∙ c.self.invariant.schema_is in
    let n = ap (λ (x : Table). x.keyspace) t in
    let m = ap (λ (v : VSchema). length v.keyspaces) schema in
    omega (arith, below, n, m)

pub returns-in-Err-clause-err : goal.returns-in-Err-clause-err
returns-in-Err-clause-err g c =
    d.without_memory g.W.World.opening g.W.World.limits c.args.pass.now c.requires.ready c.args.tx.now (typed.Write c.args.write)
