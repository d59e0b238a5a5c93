use Rattle.std.proofs.Common.{ap, sym, ◌∙◌}
use Rattle.prepared_statements.specs.Holes.{all_long}
use Rattle.prepared_statements.proofs.HoleLaws.{values_none}
use Rattle.prepared_statements.proofs.long_data.LongData.none.Goals as goal

pub invariant_of-result : goal.invariant_of-result
invariant_of-result c = sym (ap all_long c.in_ok-holes.ensures.ok ∙ values_none c.args.pieces.now)
