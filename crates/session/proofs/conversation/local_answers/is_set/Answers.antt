use Rattle.std.proofs.Common.{sym, ◌∙◌}
use Rattle.session.proofs.conversation.SetTexts.{is_set, set_leads}
use Rattle.session.proofs.conversation.local_answers.is_set.Goals as goal

pub returns-clause-yes : goal.returns-clause-yes
returns-clause-yes c = λ is.
    let has = rw c.in-Some.is at c.in_ok-tokens.ensures.found in
    let leads = rw c.as_slice.ensures.value at c.leads_set.ensures in
    is_set c.args.text.now c.in-Some.tokens.items has (sym leads ∙ is)

pub returns-clause-no : goal.returns-clause-no
returns-clause-no c = λ is sets.
    let leads = rw c.as_slice.ensures.value at c.leads_set.ensures in
    set_leads c.args.text.now c.in-Some.tokens.items (λ us has. rw c.in-Some.is at (c.in_ok-tokens.ensures.only us has)) (sym leads ∙ is) sets
