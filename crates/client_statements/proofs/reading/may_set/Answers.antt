use Rattle.std.proofs.Common.{ap, sym, ◌∙◌, not}
use Rattle.client_statements.proofs.SetFront.{not_set_by}
use Rattle.client_statements.proofs.reading.may_set.Goals as goal

pub returns-in-len3-up : goal.returns-in-len3-up
returns-in-len3-up c = λ may is_set.
    not_set_by c.args.text.now c.in-len3-up.len_at_least (sym (ap not c.is_no_set.ensures) ∙ may) is_set
