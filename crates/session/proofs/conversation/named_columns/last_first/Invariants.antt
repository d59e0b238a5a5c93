use Rattle.std.proofs.Common.{◌≡◌, ◌++◌, length}
use Rattle.std.specs.Prelude.{reverse}
use Rattle.session.specs.conversation.GivesText.{named_columns}
use Rattle.session.proofs.conversation.named_columns.last_first.Given as goal

abbrev pub invariant-loop-column : goal.invariant-loop-column
invariant-loop-column l = named_columns l.names l.rest ++ reverse l.named.items ≡ named_columns l.names l.fn.columns

abbrev pub decreases-loop-column : goal.decreases-loop-column
decreases-loop-column l = length l.rest
