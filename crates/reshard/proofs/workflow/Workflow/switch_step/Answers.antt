use Rattle.std.proofs.Common.{inr, refl}
use Rattle.reshard_create.specs.ReshardFault.TheVariants.{Refused}
use Rattle.reshard.proofs.Switches.{stopped}
use Rattle.reshard.proofs.workflow.Workflow.switch_step.Goals as goal

pub returns-in-Err-clause-refused : goal.returns-in-Err-clause-refused
unfolding stopped
returns-in-Err-clause-refused g c =
    inr (
      c.if-not-may_switch.ensures.yes refl,
      record {
        stopped =
            stopped g.W.World.opening g.W.World.limits c.args.self.now c.try_switch.new.self c.give_up.new.self c.args.pass.now c.try_switch.new.pass
            c.give_up.new.pass (Refused c.in-Err.refusal) c.try_switch.ensures.onward c.in-Err.ensures.refused c.in-Err.ensures.none c.in-Err.ensures.same
            c.give_up.ensures.now c.give_up.ensures.serve c.give_up.ensures.thawed;
        short = c.in-Err.ensures.short;
      },
    )
