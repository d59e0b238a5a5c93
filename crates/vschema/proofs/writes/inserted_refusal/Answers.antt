use Rattle.std.proofs.Common.{sym, ◌∙◌}
use Rattle.vschema.specs.WriteChecks.{inserted_values}
use Rattle.vschema.proofs.Assigned.{all_fit}
use Rattle.vschema.proofs.writes.inserted_refusal.Goals as goal

pub returns-then-not-insert_fails : goal.returns-then-not-insert_fails
returns-then-not-insert_fails c w = all_fit (inserted_values c.args.table.now c.args.insert.now) w (sym c.insert_fails.ensures ∙ c.if-not-insert_fails.true)
