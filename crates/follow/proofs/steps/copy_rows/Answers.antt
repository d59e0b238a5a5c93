use Rattle.std.proofs.Common.{inr}
use Rattle.shard_run.specs.declared.Event.TheVariants.{Copy}
use Rattle.follow.specs.inner.NextEntries.{rows}
use Rattle.follow.proofs.Onward.{still, has_looked}
use Rattle.follow.proofs.Turns.{took, looked_once}
use Rattle.follow.proofs.Moves.{on_ok_as, on_err_as, if_err_as, either_way, full_copy}
use Rattle.follow.proofs.steps.copy_rows.Goals as goal

pub returns-clause-taken : goal.returns-clause-taken
returns-clause-taken g c =
    on_ok_as c.copy.result _ _
    (λ w. let t = took g.W.World.opening c.args.state.now (Copy c.args.rows) c.args.pass.now c.copy.new.pass c.requires.legal w in rows t.0 t.1)
    c.copy.ensures.copied

pub returns-clause-refused : goal.returns-clause-refused
returns-clause-refused g c =
    on_err_as c.copy.result _ _ (λ h. inr (looked_once g.W.World.opening c.args.state.now.shard.slot c.args.pass.now c.copy.new.pass h)) c.copy.ensures.looked

pub returns-clause-onward : goal.returns-clause-onward
returns-clause-onward g c =
    let o = g.W.World.opening in
    let p = c.args.pass.now in
    let now = c.copy.new.pass in
    either_way c.copy.result _ _ _
    (λ w. (took o c.args.state.now (Copy c.args.rows) p now c.requires.legal w).0.onward)
    (λ h. has_looked o p p now c.args.state.now.shard.slot (still o p c.requires.legal) h) c.copy.ensures.copied c.copy.ensures.looked

pub returns-clause-err : goal.returns-clause-err
returns-clause-err g c =
    if_err_as c.copy.result _ _ _
    (λ e may is. full_copy g.W.World.opening g.W.World.limits c.copy.new.pass.seen c.args.state.now.shard c.args.rows e may is)
    c.copy.ensures.may c.copy.ensures.err
