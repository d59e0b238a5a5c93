use Rattle.std.proofs.Common.{ap, sym, ◌∙◌}
use Rattle.prepared_statements.specs.Holes.{all_long}
use Rattle.prepared_statements.proofs.HoleLaws.{none_long}
use Rattle.prepared_statements.proofs.long_data.LongData.clear.Goals as goal

pub invariant_of-self : goal.invariant_of-self
invariant_of-self c = sym (ap all_long c.clear_holes.ensures ∙ none_long c.self.inside.holes.items)
