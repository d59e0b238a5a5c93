use Rattle.client_statements.specs.Answers as a
use Rattle.client_statements.proofs.Answered.{under}
use Rattle.client_statements.proofs.keyspaces.databases.Goals as goal

pub returns : goal.returns
returns c =
    let heads = rw c.in_ok-like.ensures at c.in_ok-columns.ensures in
    let rows = rw c.in_ok-like.ensures at c.in_ok-rows.ensures in
    λ facts. under c.args.schema.now facts _ _ _ _ heads (a.databases rows)
