use Rattle.std.proofs.Common.{sym, ap}
use Rattle.client_statements.specs.declared.answers.ClientAnswer.TheVariants.{Refused}
use Rattle.client_statements.specs.Answers as x
use Rattle.client_statements.proofs.Answered.{is_answer, under}
use Rattle.client_statements.proofs.keyspaces.tables.Goals as goal

pub returns-in_default : goal.returns-in_default
returns-in_default c =
    is_answer c.args.schema.now c.args.facts.now _ _ _ (ap Refused c.without_keyspace.ensures) (x.without_tables (sym c.in_default.ensures))

pub returns : goal.returns
returns c =
    let heads = rw c.in_ok-like.ensures at c.in_ok-columns.ensures in
    let rows = rw c.in_ok-like.ensures at c.in_ok-rows.ensures in
    under c.args.schema.now c.args.facts.now _ _ _ _ heads (x.tables (sym c.in-Some.ensures) rows)
