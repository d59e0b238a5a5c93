use Rattle.std.proofs.Common.{sym, ◌∙◌}
use Rattle.vschema.specs.WriteChecks.{assigned_values}
use Rattle.vschema.proofs.Assigned.{all_fit}
use Rattle.vschema.proofs.writes.assigned_refusal.Goals as goal

pub returns-then-not-update_fails : goal.returns-then-not-update_fails
returns-then-not-update_fails c w = all_fit (assigned_values c.args.table.now c.args.update.now) w (sym c.update_fails.ensures ∙ c.if-not-update_fails.true)
