use Rattle.sql_parser.proofs.WholeTexts.{compared_from}
use Rattle.sql_parser.proofs.clauses.filter.Goals as goal

pub returns-in-Some : goal.returns-in-Some
returns-in-Some c =
    let text = c.args.text.now in
    let kinds = c.in-Some.ensures.kinds in
    let same = compared_from text c.args.tokens.now _ _ _ _ c.in-Some.op c.in-len4-up.len_at_least kinds.0 kinds.1 kinds.2 kinds.3 (c.in-Some.ensures.alone text) in
    rw same c.compared.ensures
