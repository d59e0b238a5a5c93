use Rattle.std.proofs.Common.{subst, sym}
use Rattle.std.proofs.lemmas.Result.{err_from_is_err_and}
use Rattle.vschema.specs.Sources.{JoinsInPlace}
use Rattle.vschema.specs.declared.schema.Typed.TheVariants as typed
use Rattle.route_engine.proofs.Doing as d
use Rattle.route_engine.proofs.engine.Engine.select_in.Goals as goal

pub returns-in_err-narrowed-clause-err : goal.returns-in_err-narrowed-clause-err
returns-in_err-narrowed-clause-err g c =
    let p = err_from_is_err_and c.from_residual.result c.from_residual.ensures.1 in
    rw (p.1, p.2) (d.without_memory g.W.World.opening g.W.World.limits c.args.pass.now c.requires.ready c.args.tx.now (typed.Select c.args.query))

pub rows_in-given-requires-clause-joins : goal.rows_in-given-requires-clause-joins
rows_in-given-requires-clause-joins g c κs within =
    subst (JoinsInPlace g.W.World.opening.schema) (sym c.in_ok-narrowed.ensures.ok) c.requires.joins
