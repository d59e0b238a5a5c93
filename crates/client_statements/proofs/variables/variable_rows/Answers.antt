use Rattle.client_statements.proofs.InTurn.{next_variable, all_variables}
use Rattle.client_statements.proofs.variables.variable_rows.Goals as goal

pub loop-variable-preserved : goal.loop-variable-preserved
loop-variable-preserved c =
    next_variable c.args.like.now c.args.autocommit c.args.variables.now c.loop-variable.variable-index _ _ _ _ c.loop-variable-test.true
    c.loop-variable.invariant c.in_ok-push_variable.ensures

pub returns : goal.returns
returns c =
    all_variables c.args.like.now c.args.autocommit c.args.variables.now c.loop-variable.variable-index _ _ c.loop-variable-test.false c.loop-variable.invariant
