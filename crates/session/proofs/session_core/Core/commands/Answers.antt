use Rattle.std.proofs.Common.{[], refl}
use Rattle.session.specs.conversation.Talk as t
use Rattle.session.proofs.session_core.Core.commands.Goals as goal

pub returns-clause-begins : goal.returns-clause-begins
returns-clause-begins g c = λ o l s. record {
  payloads = [];
  goes_on = refl;
  read = c.new.ensures.start;
  replies = rw (c.at_first-settings.ensures, c.new-held.ensures) (t.begun t.goes_on t.none);
}
