use Rattle.std.proofs.Common.{inl, inr, refl, subst}
use Rattle.std.specs.List.{AllByRecursion}
use Rattle.std.proofs.lemmas.Result.{err_from_is_err_and}
use Rattle.shard_calls.specs.Answers.{WasFound}
use Rattle.route_engine.proofs.Doing as d
use Rattle.route_engine.proofs.engine.Engine.rows_by.Goals as goal

pub returns-in_err-needs_bound-in-Some-clause-err : goal.returns-in_err-needs_bound-in-Some-clause-err
returns-in_err-needs_bound-in-Some-clause-err g c =
    let p = err_from_is_err_and c.from_residual.result c.from_residual.ensures.1 in
    rw (p.1, p.2, c.in_err-needs_bound-in-Some.ensures.err.0, ← c.tx.view_is)
    (d.read_elsewhere g.W.World.opening g.W.World.limits c.args.pass.now c.requires.ready (record { bound = c.tx.inside.bound; pending = c.tx.inside.pending })
    c.args.query.now c.requires.there c.requires.joins c.args.routed.now.table.now c.requires.table c.args.routed.now.route.now c.requires.route c.in-Some.here c.in-Some.is c.in_err-needs_bound-in-Some.ensures.err.1)

pub read_at-requires-clause-tied : goal.read_at-requires-clause-tied
read_at-requires-clause-tied g c =
    λ u same. d.tied_to g.W.World.opening g.W.World.limits c.args.pass.now c.requires.ready (record { bound = c.tx.inside.bound; pending = c.tx.inside.pending }) (rw (← c.tx.view_is) at c.requires.tx) c.in-Some.here (inr c.in-Some.is) u same

pub returns-in-Err-clause-err : goal.returns-in-Err-clause-err
returns-in-Err-clause-err g c =
    rw (← c.tx.view_is)
    (d.read_not_bound g.W.World.opening g.W.World.limits c.args.pass.now c.requires.ready (record { bound = c.tx.inside.bound; pending = c.tx.inside.pending })
    c.args.query.now c.requires.there c.requires.joins c.args.routed.now.table.now c.requires.table c.args.routed.now.route.now c.requires.route c.in-None.is c.look_at_each.new.pass c.current-partition.result.now c.in-Err.ensures.partition c.current-partition.ensures
    (subst (AllByRecursion (WasFound g.W.World.opening c.args.pass.now.seen c.look_at_each.new.pass.seen)) c.parts.ensures.seats c.look_at_each.ensures.found)
    c.look_at_each.ensures.gone c.in-Err.refusal c.in-Err.ensures.err)

pub read_first-requires-clause-tied : goal.read_first-requires-clause-tied
read_first-requires-clause-tied g c =
    rw (c.in-Ok-Some.field-0-is, ← c.tx.view_is)
    (λ u same. d.tied_to g.W.World.opening g.W.World.limits c.args.pass.now c.requires.ready (record { bound = c.tx.inside.bound; pending = c.tx.inside.pending }) (rw (← c.tx.view_is) at c.requires.tx) c.in-Ok-Some.new (inl c.in-None.is) u same)

pub returns-then-branch-clause-ok : goal.returns-then-branch-clause-ok
returns-then-branch-clause-ok g c =
    rw (← c.tx.view_is)
    (d.all_read g.W.World.opening g.W.World.limits c.args.pass.now c.requires.ready (record { bound = c.tx.inside.bound; pending = c.tx.inside.pending })
    c.args.query.now c.requires.there c.requires.joins c.args.routed.now.table.now c.requires.table c.args.routed.now.route.now c.requires.route c.in-Some.here (inr c.in-Some.is) (c.in_ok-needs_bound-in-Some.ensures.bound c.if-branch.true) c.read_at.new.pass c.tx.inside.bound c.read_at.new.pending c.read_at.result (d.always c.read_at.result c.in-Some.is) c.read_at.ensures.ok)

pub returns-then-branch-clause-err : goal.returns-then-branch-clause-err
returns-then-branch-clause-err g c =
    rw (← c.tx.view_is)
    (d.all_not_read g.W.World.opening g.W.World.limits c.args.pass.now c.requires.ready (record { bound = c.tx.inside.bound; pending = c.tx.inside.pending })
    c.args.query.now c.requires.there c.requires.joins c.args.routed.now.table.now c.requires.table c.args.routed.now.route.now c.requires.route c.in-Some.here (inr c.in-Some.is) (c.in_ok-needs_bound-in-Some.ensures.bound c.if-branch.true) c.read_at.new.pass c.read_at.result c.read_at.ensures.err)

pub returns-else-branch-clause-ok : goal.returns-else-branch-clause-ok
returns-else-branch-clause-ok g c =
    rw (← c.tx.view_is)
    (d.all_nowhere g.W.World.opening g.W.World.limits c.args.pass.now c.requires.ready (record { bound = c.tx.inside.bound; pending = c.tx.inside.pending })
    c.args.query.now c.requires.there c.requires.joins c.args.routed.now.table.now c.requires.table c.args.routed.now.route.now c.requires.route c.tx.inside.bound refl (c.in_ok-needs_bound-in-Some.ensures.none c.if-branch.false) c.read_nothing.result c.read_nothing.ensures.rows c.read_nothing.ensures.reads)

pub returns-else-branch-clause-err : goal.returns-else-branch-clause-err
returns-else-branch-clause-err g c =
    rw (← c.tx.view_is)
    (d.nowhere_refused g.W.World.opening g.W.World.limits c.args.pass.now c.requires.ready (record { bound = c.tx.inside.bound; pending = c.tx.inside.pending })
    c.args.query.now c.requires.there c.requires.joins c.args.routed.now.table.now c.requires.table c.args.routed.now.route.now c.requires.route c.read_nothing.result c.read_nothing.ensures.err)

pub returns-in-Ok-Some-clause-ok : goal.returns-in-Ok-Some-clause-ok
returns-in-Ok-Some-clause-ok g c =
    rw (← c.tx.view_is)
    (d.all_read g.W.World.opening g.W.World.limits c.args.pass.now c.requires.ready (record { bound = c.tx.inside.bound; pending = c.tx.inside.pending })
    c.args.query.now c.requires.there c.requires.joins c.args.routed.now.table.now c.requires.table c.args.routed.now.route.now c.requires.route c.in-Ok-Some.new (inl c.in-None.is) (rw c.in-Ok-Some.field-0-is at c.in-Ok-Some.ensures.some) c.read_first.new.pass c.read_first.new.tx.bound c.read_first.new.tx.pending c.read_first.result (rw c.in-Ok-Some.field-0-is at c.read_first.ensures.now_bound) (rw (c.in-Ok-Some.field-0-is, ← c.tx.view_is) at c.read_first.ensures.ok))

pub returns-in-Ok-Some-clause-err : goal.returns-in-Ok-Some-clause-err
returns-in-Ok-Some-clause-err g c =
    rw (← c.tx.view_is)
    (d.all_not_read g.W.World.opening g.W.World.limits c.args.pass.now c.requires.ready (record { bound = c.tx.inside.bound; pending = c.tx.inside.pending })
    c.args.query.now c.requires.there c.requires.joins c.args.routed.now.table.now c.requires.table c.args.routed.now.route.now c.requires.route c.in-Ok-Some.new (inl c.in-None.is) (rw c.in-Ok-Some.field-0-is at c.in-Ok-Some.ensures.some) c.read_first.new.pass c.read_first.result (rw (c.in-Ok-Some.field-0-is, ← c.tx.view_is) at c.read_first.ensures.err))

pub returns-in-Ok-None-clause-ok : goal.returns-in-Ok-None-clause-ok
returns-in-Ok-None-clause-ok g c =
    rw (← c.tx.view_is)
    (d.all_nowhere g.W.World.opening g.W.World.limits c.args.pass.now c.requires.ready (record { bound = c.tx.inside.bound; pending = c.tx.inside.pending })
    c.args.query.now c.requires.there c.requires.joins c.args.routed.now.table.now c.requires.table c.args.routed.now.route.now c.requires.route c.tx.inside.bound refl (rw c.in-Ok-None.field-0-is at c.in-Ok-None.ensures.none) c.read_nothing-in-Ok-None.result c.read_nothing-in-Ok-None.ensures.rows c.read_nothing-in-Ok-None.ensures.reads)

pub returns-in-Ok-None-clause-err : goal.returns-in-Ok-None-clause-err
returns-in-Ok-None-clause-err g c =
    rw (← c.tx.view_is)
    (d.nowhere_refused g.W.World.opening g.W.World.limits c.args.pass.now c.requires.ready (record { bound = c.tx.inside.bound; pending = c.tx.inside.pending })
    c.args.query.now c.requires.there c.requires.joins c.args.routed.now.table.now c.requires.table c.args.routed.now.route.now c.requires.route c.read_nothing-in-Ok-None.result c.read_nothing-in-Ok-None.ensures.err)
