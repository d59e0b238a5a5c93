use Rattle.keyrange.proofs.Reading.{one_range_of}
use Rattle.keyrange.proofs.names.one_range.Goals as goal

pub returns : goal.returns
returns c = one_range_of
