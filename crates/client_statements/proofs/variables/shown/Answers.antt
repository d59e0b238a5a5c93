use Rattle.client_statements.specs.Answers as x
use Rattle.client_statements.proofs.Answered.{under, with_rows}
use Rattle.client_statements.proofs.variables.shown.Goals as goal

pub returns : goal.returns
returns c =
    let rows = rw c.in_ok-like.ensures at c.in_ok-rows.ensures in
    λ schema. under schema c.args.facts.now _ _ _ _ c.in_ok-columns.ensures (with_rows schema c.args.facts.now _ _ _ _ rows x.shown)
