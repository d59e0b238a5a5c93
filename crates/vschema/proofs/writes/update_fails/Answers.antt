use Rattle.std.proofs.Common.{ℕ, List, ap, ◌∙◌}
use Rattle.std.specs.Prelude.{flat_map}
use Rattle.std.specs.List.{list_any}
use Rattle.sql_tree.specs.declared.Assignment.{Assignment}
use Rattle.vschema.specs.WriteChecks.{with_column}
use Rattle.vschema.specs.inner.StoredChecks.{fails}
use Rattle.vschema.proofs.Assigned.{stored_resolved}
use Rattle.vschema.proofs.writes.update_fails.Goals as goal

pub returns : goal.returns
returns c =
    let table = c.args.table.now in
    c.assignments_fail.ensures
    ∙ ap (λ (l : List (Assignment ℕ)). list_any (fails c.args.check) (flat_map (λ (a : Assignment ℕ). with_column table a.column a.value) l)) c.requires.resolved
    ∙ ap (list_any (fails c.args.check)) (stored_resolved table c.args.update.now.assignments)
