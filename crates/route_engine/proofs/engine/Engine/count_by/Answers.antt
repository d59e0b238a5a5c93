use Rattle.std.proofs.Common.{inl, inr, refl, subst}
use Rattle.std.specs.List.{AllByRecursion}
use Rattle.shard_calls.specs.Answers.{WasFound}
use Rattle.route_engine.proofs.Doing as d
use Rattle.route_engine.proofs.engine.Engine.count_by.Goals as goal

pub returns-in-Ok-true-clause-ok : goal.returns-in-Ok-true-clause-ok
returns-in-Ok-true-clause-ok g c =
    rw (← c.tx.view_is)
    (d.all_written g.W.World.opening g.W.World.limits c.args.pass.now c.requires.ready (record { bound = c.tx.inside.bound; pending = c.tx.inside.pending })
    c.args.write c.requires.typed c.args.routed.now.table.now c.requires.table c.args.routed.now.route.now c.requires.route c.in-Some.here (inr c.in-Some.is) (c.in-Ok-true.ensures.bound c.in-Ok-true.field-0-test) c.write_at.new.pass c.tx.inside.bound c.write_at.new.pending c.write_at.result (d.always c.write_at.result c.in-Some.is) c.write_at.ensures.ok)

pub returns-in-Ok-true-clause-err : goal.returns-in-Ok-true-clause-err
returns-in-Ok-true-clause-err g c =
    rw (← c.tx.view_is)
    (d.all_not_written g.W.World.opening g.W.World.limits c.args.pass.now c.requires.ready (record { bound = c.tx.inside.bound; pending = c.tx.inside.pending })
    c.args.write c.requires.typed c.args.routed.now.table.now c.requires.table c.args.routed.now.route.now c.requires.route c.in-Some.here (inr c.in-Some.is) (c.in-Ok-true.ensures.bound c.in-Ok-true.field-0-test) c.write_at.new.pass c.write_at.result c.write_at.ensures.err)

pub returns-in-Ok-false-clause-ok : goal.returns-in-Ok-false-clause-ok
returns-in-Ok-false-clause-ok g c =
    rw (← c.tx.view_is)
    (d.written_nowhere g.W.World.opening g.W.World.limits c.args.pass.now c.requires.ready (record { bound = c.tx.inside.bound; pending = c.tx.inside.pending })
    c.args.write c.requires.typed c.args.routed.now.table.now c.requires.table c.args.routed.now.route.now c.requires.route c.tx.inside.bound refl (c.in-Ok-false.ensures.none c.in-Ok-false.field-0-test))

pub returns-in-Err-clause-err : goal.returns-in-Err-clause-err
returns-in-Err-clause-err g c =
    rw (c.in-Err.ensures.err.0, ← c.tx.view_is)
    (d.write_elsewhere g.W.World.opening g.W.World.limits c.args.pass.now c.requires.ready (record { bound = c.tx.inside.bound; pending = c.tx.inside.pending })
    c.args.write c.requires.typed c.args.routed.now.table.now c.requires.table c.args.routed.now.route.now c.requires.route c.in-Some.here c.in-Some.is c.in-Err.ensures.err.1)

pub returns-in-Ok-Some-clause-ok : goal.returns-in-Ok-Some-clause-ok
returns-in-Ok-Some-clause-ok g c =
    rw (← c.tx.view_is)
    (d.all_written g.W.World.opening g.W.World.limits c.args.pass.now c.requires.ready (record { bound = c.tx.inside.bound; pending = c.tx.inside.pending })
    c.args.write c.requires.typed c.args.routed.now.table.now c.requires.table c.args.routed.now.route.now c.requires.route c.in-Ok-Some.new (inl c.in-None.is) (rw c.in-Ok-Some.field-0-is at c.in-Ok-Some.ensures.some) c.write_first.new.pass c.write_first.new.tx.bound c.write_first.new.tx.pending c.write_first.result (rw c.in-Ok-Some.field-0-is at c.write_first.ensures.now_bound) (rw (c.in-Ok-Some.field-0-is, ← c.tx.view_is) at c.write_first.ensures.ok))

pub returns-in-Ok-Some-clause-err : goal.returns-in-Ok-Some-clause-err
returns-in-Ok-Some-clause-err g c =
    rw (← c.tx.view_is)
    (d.all_not_written g.W.World.opening g.W.World.limits c.args.pass.now c.requires.ready (record { bound = c.tx.inside.bound; pending = c.tx.inside.pending })
    c.args.write c.requires.typed c.args.routed.now.table.now c.requires.table c.args.routed.now.route.now c.requires.route c.in-Ok-Some.new (inl c.in-None.is) (rw c.in-Ok-Some.field-0-is at c.in-Ok-Some.ensures.some) c.write_first.new.pass c.write_first.result (rw (c.in-Ok-Some.field-0-is, ← c.tx.view_is) at c.write_first.ensures.err))

pub returns-in-Ok-None-clause-ok : goal.returns-in-Ok-None-clause-ok
returns-in-Ok-None-clause-ok g c =
    rw (← c.tx.view_is)
    (d.write_nowhere g.W.World.opening g.W.World.limits c.args.pass.now c.requires.ready (record { bound = c.tx.inside.bound; pending = c.tx.inside.pending })
    c.args.write c.requires.typed c.args.routed.now.table.now c.requires.table c.args.routed.now.route.now c.requires.route (rw c.in-Ok-None.field-0-is at c.in-Ok-None.ensures.none))

pub returns-in-Err-first_bound-clause-err : goal.returns-in-Err-first_bound-clause-err
returns-in-Err-first_bound-clause-err g c =
    rw (← c.tx.view_is)
    (d.write_not_bound g.W.World.opening g.W.World.limits c.args.pass.now c.requires.ready (record { bound = c.tx.inside.bound; pending = c.tx.inside.pending })
    c.args.write c.requires.typed c.args.routed.now.table.now c.requires.table c.args.routed.now.route.now c.requires.route c.in-None.is c.look_at_each.new.pass c.current-partition.result.now
    c.in-Err-first_bound.ensures.partition c.current-partition.ensures
    (subst (AllByRecursion (WasFound g.W.World.opening c.args.pass.now.seen c.look_at_each.new.pass.seen)) c.parts.ensures.seats c.look_at_each.ensures.found)
    c.look_at_each.ensures.gone c.in-Err-first_bound.refusal c.in-Err-first_bound.ensures.err)
