use Rattle.session.proofs.conversation.TextLemmas.{read_opens, read_full}
use Rattle.session.proofs.conversation.texts.text_opens_one.Goals as goal

pub returns-clause-opens : goal.returns-clause-opens
returns-clause-opens c = rw c.opens_read-opens.ensures (read_opens c.args.text.now c.parse-parsed.result c.parse-parsed.ensures.found c.parse-parsed.ensures.only)

pub returns-clause-err : goal.returns-clause-err
returns-clause-err c = rw c.opens_read-opens.ensures (read_full c.parse-parsed.result)
