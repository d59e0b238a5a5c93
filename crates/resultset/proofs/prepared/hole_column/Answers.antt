use Rattle.std.proofs.Common.{refl}
use Rattle.resultset.specs.PreparedReplies.{hole_column}
use Rattle.resultset.proofs.Definitions.{same_column}
use Rattle.resultset.proofs.prepared.hole_column.Goals as goal

pub returns : goal.returns
returns c = same_column _ hole_column c.lent.ensures c.lent-2.ensures c.lent-3.ensures c.lent-4.ensures refl refl
