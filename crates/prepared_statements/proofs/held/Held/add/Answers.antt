use Rattle.std.proofs.Common.{ap, ◌∙◌}
use Rattle.prepared_statements.specs.declared.held.Prepared.{Prepared}
use Rattle.prepared_statements.specs.Holes.{all_long}
use Rattle.prepared_statements.proofs.HoleLaws.{values_none}
use Rattle.prepared_statements.proofs.held.Held.add.Goals as goal

pub put-requires-clause-long : goal.put-requires-clause-long
put-requires-clause-long c = ap (λ (q : Prepared). all_long q.long) c.in_ok-held.ensures.ok ∙ values_none c.args.pieces
