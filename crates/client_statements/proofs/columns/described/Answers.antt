use Rattle.std.proofs.Common.{ℕ, List, Option, sym, ap, ◌∙◌}
use Rattle.client_statements.specs.Answers.{column_rows}
use Rattle.client_statements.specs.Answers as x
use Rattle.client_statements.proofs.Answered.{under, with_rows}
use Rattle.client_statements.proofs.columns.described.Goals as goal

pub returns-then-not-is_keyspace : goal.returns-then-not-is_keyspace
returns-then-not-is_keyspace c = λ facts. x.elsewhere (sym c.is_keyspace.ensures ∙ c.if-not-is_keyspace.true)

pub returns-in_default : goal.returns-in_default
returns-in_default c = λ facts. x.without_table (sym c.is_keyspace.ensures ∙ c.if-not-is_keyspace.false) (sym c.in_default.ensures)

pub returns : goal.returns
returns c =
    let t = c.in-Some.table.now in
    let rows = c.in_ok-rows.ensures ∙ ap (λ (like : Option (List ℕ)). column_rows c.args.full like t 0 t.columns) c.in_ok-like.ensures in
    λ facts. under c.args.schema.now facts _ _ _ _ c.in_ok-columns.ensures
    (with_rows c.args.schema.now facts _ _ _ _ rows
    (x.columns (sym c.is_keyspace.ensures ∙ c.if-not-is_keyspace.false) (sym c.in-Some.ensures)))
