use Rattle.std.proofs.Common.{List, get_or, ◌<◌, ◌≡◌, length, sym, ap, subst, ◌∙◌, arith}
use Rattle.std.proofs.lemmas.Result.{IfOk-weaker, IfErr-weaker}
use Rattle.vschema.specs.declared.schema.Table.{Table}
use Rattle.vschema.specs.declared.schema.VSchema.{VSchema}
use Rattle.shard_calls.specs.Answers as a
use Rattle.route_engine.proofs.Selecting.{is_table, read_after}
use Rattle.route_engine.proofs.Formed.{keyspace_below}
use Rattle.route_engine.proofs.Points.{point_read, refused_after}
use Rattle.route_engine.proofs.engine.Engine.rows_over.Goals as goal

pub answer_point-requires-clause-keyspace : goal.answer_point-requires-clause-keyspace
answer_point-requires-clause-keyspace g c κs within =
    let o = g.W.World.opening in
    let there = subst (λ (v : VSchema). c.args.query.table < length v.tables) (sym c.self.view_is) c.requires.there in
    let t = is_table o c.self.inside.schema c.self.invariant.schema_is c.args.query.table there
    c.index-as_slice-ordinal.result (c.index-as_slice-ordinal.is ∙ ap (λ (l : List Table). get_or l c.args.query.table c.index-as_slice-ordinal.result) c.as_slice.ensures) in
    let below = keyspace_below o.schema c.self.invariant.formed c.args.query.table in
    let schema : c.args.self.now ≡ o.schema = sym c.self.view_is ∙ c.self.invariant.schema_is in
    let n = ap (λ (x : Table). x.keyspace) t in
    let m = ap (λ (v : VSchema). length v.keyspaces) schema in
    omega (arith, below, n, m)

pub returns-in-Ok-Some-clause-ok : goal.returns-in-Ok-Some-clause-ok
returns-in-Ok-Some-clause-ok g c =
    let is = rw c.in-Ok-Some.field-0-is at c.in-Ok-Some.ensures.ok in
    let read = point_read g.W.World.opening c.self.invariant.opens c.self.inside.schema c.self.invariant.schema_is c.args.query c.requires.joins
    (subst (λ (v : VSchema). c.args.query.table < length v.tables) (sym c.self.view_is) c.requires.there) c.index-as_slice-ordinal.result
    (c.index-as_slice-ordinal.is ∙ ap (λ (l : List Table). get_or l c.args.query.table c.index-as_slice-ordinal.result) c.as_slice.ensures)
    c.args.pass.now c.answer_point.new.pass c.in-Ok-Some.read.0 c.in-Ok-Some.read.1 is in
    rw (c.shown_in.ensures.items, c.shown_in.ensures.qualified) read

pub returns-in-Ok-None-clause-ok : goal.returns-in-Ok-None-clause-ok
returns-in-Ok-None-clause-ok g c =
    IfOk-weaker c.rows_by_plan.result _ _
    (λ r is. read_after g.W.World.opening c.args.pass.now c.answer_point.new.pass c.rows_by_plan.new.pass c.args.query _ c.answer_point.ensures.gone is) c.rows_by_plan.ensures.ok

pub returns-in-Ok-None-clause-err : goal.returns-in-Ok-None-clause-err
returns-in-Ok-None-clause-err g c =
    IfErr-weaker c.rows_by_plan.result _ _
    (λ e is. refused_after g.W.World.opening c.args.pass.now c.answer_point.new.pass c.rows_by_plan.new.pass c.args.query e c.answer_point.ensures.gone is) c.rows_by_plan.ensures.err

pub returns-in-Err-clause-err : goal.returns-in-Err-clause-err
returns-in-Err-clause-err g c = a.no_memory c.answer_point.ensures.gone
