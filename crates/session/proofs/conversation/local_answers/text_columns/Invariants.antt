use Rattle.std.proofs.Common.{take}
use Rattle.session.specs.conversation.GivesText.{AllTexts}
use Rattle.session.proofs.conversation.local_answers.text_columns.Given as goal

abbrev pub invariant-loop-name : goal.invariant-loop-name
invariant-loop-name l = AllTexts (take l.name-index l.names) l.columns
