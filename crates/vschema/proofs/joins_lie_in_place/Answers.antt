use Rattle.vschema.proofs.TypedJoins.{in_place}
use Rattle.vschema.proofs.joins_lie_in_place.Goals as goal

pub returns : goal.returns
returns c = in_place
