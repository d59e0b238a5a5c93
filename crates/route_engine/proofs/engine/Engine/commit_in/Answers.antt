use Rattle.std.proofs.Common.{inr}
use Rattle.std.proofs.lemmas.Result.{err_from_is_err_and}
use Rattle.route_engine.proofs.Doing as d
use Rattle.route_engine.proofs.engine.Engine.commit_in.Goals as goal

pub commit_at-requires-clause-tied : goal.commit_at-requires-clause-tied
commit_at-requires-clause-tied g c =
    λ u same. d.tied_to g.W.World.opening g.W.World.limits c.args.pass.now c.requires.ready (record { bound = c.tx.inside.bound; pending = c.tx.inside.pending }) (rw (← c.tx.view_is) at c.requires.tx) c.in-Some.here (inr c.in-Some.is) u same

pub returns-in_err-commit_at-in-Some-clause-err : goal.returns-in_err-commit_at-in-Some-clause-err
returns-in_err-commit_at-in-Some-clause-err g c =
    let p = err_from_is_err_and c.from_residual.result c.from_residual.ensures.1 in
    rw (p.1, p.2, ← c.tx.view_is)
    (d.commit_refused g.W.World.opening g.W.World.limits c.args.pass.now c.requires.ready (record { bound = c.tx.inside.bound; pending = c.tx.inside.pending }) c.in-Some.here c.in-Some.is c.in_err-commit_at-in-Some.field-0.0 c.commit_at.new.pass c.in_err-commit_at-in-Some.ensures.err)

pub returns-in_ok-commit_at-in-Some-clause-ok : goal.returns-in_ok-commit_at-in-Some-clause-ok
returns-in_ok-commit_at-in-Some-clause-ok g c =
    rw (c.counted.ensures, ← c.tx.view_is)
    (d.commits_on g.W.World.opening g.W.World.limits c.args.pass.now c.requires.ready (record { bound = c.tx.inside.bound; pending = c.tx.inside.pending }) c.in-Some.here c.in-Some.is c.commit_at.new.pass c.in_ok-commit_at-in-Some.ensures.ok)

pub returns-in-None-clause-ok : goal.returns-in-None-clause-ok
returns-in-None-clause-ok g c =
    rw (c.counted-in-None.ensures, ← c.tx.view_is)
    (d.commits_none g.W.World.opening g.W.World.limits c.args.pass.now c.requires.ready (record { bound = c.tx.inside.bound; pending = c.tx.inside.pending }) c.in-None.is)
