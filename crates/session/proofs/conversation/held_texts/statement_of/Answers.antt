use Rattle.std.proofs.Common.{inr, refl}
use Rattle.std.proofs.lemmas.Result.{IfOk-weaker}
use Rattle.session.proofs.conversation.HeldTexts.{says_found, says_none}
use Rattle.session.proofs.conversation.held_texts.statement_of.Goals as goal

pub returns-in-Ok-Some-clause-found : goal.returns-in-Ok-Some-clause-found
returns-in-Ok-Some-clause-found c =
    let is = rw c.in-Ok-Some.field-0-is at c.in-Ok-Some.ensures.found in
    IfOk-weaker c.said_statement.result _ _
    (λ x h. says_found c.args.schema.now c.args.text.now c.in-Ok-Some.said x.statement x.names is h.0 h.1)
    c.said_statement.ensures.found

pub returns-in-Ok-Some-clause-err : goal.returns-in-Ok-Some-clause-err
returns-in-Ok-Some-clause-err c =
    says_none c.said_statement.result c.args.schema.now c.args.text.now c.in-Ok-Some.said c.said_statement.ensures.err c.said_statement.ensures.only
    (λ whole names is. rw c.in-Ok-Some.field-0-is at (c.in-Ok-Some.ensures.only whole names is))

pub returns-in-Ok-None-clause-err : goal.returns-in-Ok-None-clause-err
returns-in-Ok-None-clause-err c = inr (
  refl,
  λ statement names says. let some = rw c.in-Ok-None.field-0-is at (c.in-Ok-None.ensures.only says.whole names says.says) in cc,
)
