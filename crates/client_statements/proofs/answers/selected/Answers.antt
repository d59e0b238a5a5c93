use Rattle.std.proofs.Common.{sym, ◌∙◌}
use Rattle.client_statements.specs.Answers as x
use Rattle.client_statements.proofs.Answered.{under, with_rows}
use Rattle.client_statements.proofs.answers.selected.Goals as goal

pub returns-then-not-are_known_names : goal.returns-then-not-are_known_names
returns-then-not-are_known_names c = x.unknown (sym c.are_known_names.ensures ∙ c.if-not-are_known_names.true)

pub returns : goal.returns
returns c =
    under c.args.schema.now c.args.facts.now _ _ _ _ c.in_ok-columns.ensures
    (with_rows c.args.schema.now c.args.facts.now _ _ _ _ c.in_ok-rows.ensures (x.selected (sym c.are_known_names.ensures ∙ c.if-not-are_known_names.false)))
