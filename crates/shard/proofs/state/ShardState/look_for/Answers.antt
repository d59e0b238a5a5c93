use Rattle.shard_contents.proofs.States.{looked, mode_after_look}
use Rattle.journal.specs.Views.{SeatView}
use Rattle.shard_run.specs.declared.Entry.{Entry}
use Rattle.std.proofs.Common.{ap}
use Rattle.shard.proofs.state.ShardState.look_for.Goals as goal

pub invariant_of-self : goal.invariant_of-self
invariant_of-self g c =
    let l = looked _ _ c.self.inside.seat c.look_for.new.self c.args.pass.now _ _ c.look_for.ensures.seen c.look_for.ensures.seat c.self.invariant in
    (l.is, l.names, c.self.invariant.2)

pub returns-clause-stands : goal.returns-clause-stands
returns-clause-stands g c =
    let l = looked _ _ c.self.inside.seat c.look_for.new.self c.args.pass.now _ _ c.look_for.ensures.seen c.look_for.ensures.seat c.self.invariant in
    rw (← c.self.view_is) (l.is.stands)

pub returns-clause-mode : goal.returns-clause-mode
returns-clause-mode g c =
    rw (← c.self.view_is)
    (mode_after_look _ g.W.World.limits c.self.inside.seat c.look_for.new.self c.args.pass.now c.self.inside.contents c.self.inside.targets c.look_for.ensures.seen
    (ap (λ (s : SeatView Entry). s.slot) c.look_for.ensures.seat) c.self.invariant.0)
