use Rattle.session.specs.conversation.Prepared as a
use Rattle.session.proofs.conversation.HeldTexts.{not_plain}
use Rattle.session.proofs.conversation.held_texts.read_held.Goals as goal

pub returns-in-Ok-clause-found : goal.returns-in-Ok-clause-found
returns-in-Ok-clause-found c = rw c.new.ensures (a.read c.in-Ok.ensures.found)

pub read_said-requires : goal.read_said-requires
read_said-requires c = record {
  other = not_plain c.args.text.now
      (λ pieces statement may. rw c.in-Err-SyntaxError.field-0-is at (c.in-Err-SyntaxError.ensures.only pieces statement may));
}
