use Rattle.vschema.proofs.Repeats.{one_once}
use Rattle.vschema.proofs.twice.sets_twice.Goals as goal

pub returns-in-len1 : goal.returns-in-len1
returns-in-len1 c = one_once c.args.assignments.now c.in-len1.len_below
