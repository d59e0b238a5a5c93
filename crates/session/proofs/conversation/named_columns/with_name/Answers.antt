use Rattle.std.proofs.Common.{refl}
use Rattle.resultset.proofs.Definitions.{same_column}
use Rattle.session.proofs.conversation.named_columns.with_name.Goals as goal

pub returns : goal.returns
returns c = same_column _ _ refl refl c.own.ensures refl refl refl
