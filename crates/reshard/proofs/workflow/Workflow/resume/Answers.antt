use Rattle.std.proofs.Common.{rules, ◌≡◌, ap, ◌∙◌}
use Rattle.reshard.specs.Workflows.{WorkflowView}
use Rattle.reshard.specs.Cutover.{thawed, finished}
use Rattle.reshard.proofs.Switches.{given_up}
use Rattle.reshard.proofs.workflow.Workflow.resume.Goals as goal

pub returns-then-self-eq0-clause-resumed : goal.returns-then-self-eq0-clause-resumed
returns-then-self-eq0-clause-resumed g c =
    let none : c.args.self.now.retired ≡ 0 = search rules in
    thawed (given_up g.W.World.opening c.args.self.now c.give_up.new.self c.args.pass.now c.give_up.new.pass none c.give_up.ensures.now c.give_up.ensures.serve
    c.give_up.ensures.thawed)

pub returns-clause-resumed : goal.returns-clause-resumed
returns-clause-resumed g c =
    finished (λ e. c.if-self-eq0.false (ap (λ (w : WorkflowView). w.retired) c.self.view_is ∙ e)) c.finish.ensures.finished c.finish.ensures.steps
