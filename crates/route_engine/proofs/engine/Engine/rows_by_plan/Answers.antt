use Rattle.std.proofs.Common.{List, get_or, [], ◌<◌, ◌≡◌, length, sym, ap, subst, ◌∙◌, arith}
use Rattle.vschema.specs.declared.schema.Table.{Table}
use Rattle.vschema.specs.declared.schema.VSchema.{VSchema}
use Rattle.shard_calls.specs.Answers as a
use Rattle.route_engine.proofs.Selecting.{selected, joined, arranged, is_table}
use Rattle.route_engine.proofs.Formed.{keyspace_below}
use Rattle.shard_calls.specs.Plan.{Plan}
use Rattle.shard_calls.specs.Plans.{planned}
use Rattle.shard_calls.specs.Routes.{table_at}
use Rattle.route_engine.proofs.Scattering.{not_read}
use Rattle.shard_calls.proofs.Gathers.{stays}
use Rattle.route_engine.proofs.engine.Engine.rows_by_plan.Goals as goal

pub returns-in-Err-clause-err : goal.returns-in-Err-clause-err
returns-in-Err-clause-err g c = a.no_memory ([], stays _ _ c.requires.legal)

pub answer-answered-requires-clause-keyspace : goal.answer-answered-requires-clause-keyspace
answer-answered-requires-clause-keyspace g c κs within =
    let o = g.W.World.opening in
    let there = subst (λ (v : VSchema). c.args.query.table < length v.tables) (sym c.self.view_is) c.requires.there in
    let t = is_table o c.self.inside.schema c.self.invariant.schema_is c.args.query.table there
    c.index-as_slice-ordinal.result (c.index-as_slice-ordinal.is ∙ ap (λ (l : List Table). get_or l c.args.query.table c.index-as_slice-ordinal.result) c.as_slice.ensures) in
    let below = keyspace_below o.schema c.self.invariant.formed c.args.query.table in
    let schema : c.args.self.now ≡ o.schema = sym c.self.view_is ∙ c.self.invariant.schema_is in
    let n = ap (λ (x : Table). x.keyspace) t in
    let m = ap (λ (v : VSchema). length v.keyspaces) schema in
    omega (arith, below, n, m)

pub answer-answered-requires-clause-fit : goal.answer-answered-requires-clause-fit
answer-answered-requires-clause-fit g c κs within = λ pieces reads now is.
    joined g.W.World.opening c.self.invariant.opens c.self.inside.schema c.self.invariant.schema_is c.args.query c.requires.joins
    (subst (λ (v : VSchema). c.args.query.table < length v.tables) (sym c.self.view_is) c.requires.there) c.index-as_slice-ordinal.result
    (c.index-as_slice-ordinal.is ∙ ap (λ (l : List Table). get_or l c.args.query.table c.index-as_slice-ordinal.result) c.as_slice.ensures)
    c.in-Ok.plan c.in-Ok.ensures.exact c.in-Ok.ensures.right c.args.pass.now now pieces reads is

pub answer-answered-requires-clause-order : goal.answer-answered-requires-clause-order
answer-answered-requires-clause-order g c κs within = λ pieces reads now is.
    arranged g.W.World.opening c.self.invariant.opens c.self.inside.schema c.self.invariant.schema_is c.args.query c.requires.joins
    (subst (λ (v : VSchema). c.args.query.table < length v.tables) (sym c.self.view_is) c.requires.there) c.index-as_slice-ordinal.result
    (c.index-as_slice-ordinal.is ∙ ap (λ (l : List Table). get_or l c.args.query.table c.index-as_slice-ordinal.result) c.as_slice.ensures)
    c.in-Ok.plan c.in-Ok.ensures.exact c.in-Ok.ensures.right c.args.pass.now now pieces reads is c.in-Ok.ensures.order

pub returns-in-Ok-answered-clause-ok : goal.returns-in-Ok-answered-clause-ok
returns-in-Ok-answered-clause-ok g c =
    let done = c.in-Ok-answered.ensures.ok in
    selected g.W.World.opening c.self.invariant.opens c.self.inside.schema c.self.invariant.schema_is c.args.query c.requires.joins
    (subst (λ (v : VSchema). c.args.query.table < length v.tables) (sym c.self.view_is) c.requires.there) c.index-as_slice-ordinal.result
    (c.index-as_slice-ordinal.is ∙ ap (λ (l : List Table). get_or l c.args.query.table c.index-as_slice-ordinal.result) c.as_slice.ensures)
    c.in-Ok.plan c.in-Ok.ensures.exact c.in-Ok.ensures.right c.args.pass.now c.answer-answered.new.pass
    done.pieces c.in-Ok-answered.read.1 done.scattered c.in-Ok-answered.read.0 done.finished c.shown_by-shown.result.0 (c.shown_by-shown.ensures.items ∙ ap (λ (p : Plan). p.items) c.in-Ok.ensures.exact)
    c.shown_by-shown.result.1 (c.shown_by-shown.ensures.qualified ∙ ap (λ (p : Plan). p.qualified) c.in-Ok.ensures.exact)

pub returns-clause-err : goal.returns-clause-err
returns-clause-err g c =
    let there = subst (λ (v : VSchema). c.args.query.table < length v.tables) (sym c.self.view_is) c.requires.there in
    let t = is_table g.W.World.opening c.self.inside.schema c.self.invariant.schema_is c.args.query.table there
    c.index-as_slice-ordinal.result (c.index-as_slice-ordinal.is ∙ ap (λ (l : List Table). get_or l c.args.query.table c.index-as_slice-ordinal.result) c.as_slice.ensures) in
    let exact = subst (λ (v : VSchema). c.in-Ok.plan ≡ planned (table_at v c.args.query.table) c.args.query) c.self.invariant.schema_is c.in-Ok.ensures.exact in
    not_read g.W.World.opening c.args.query c.index-as_slice-ordinal.result c.in-Ok.plan t exact c.args.pass.now c.answer-answered.new.pass
    c.in-Err-answered.ensures.gone c.in-Err-answered.refusal c.in-Err-answered.ensures.err
