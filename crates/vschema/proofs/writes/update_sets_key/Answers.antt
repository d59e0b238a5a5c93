use Rattle.std.proofs.Common.{ℕ, List, ap, ◌∙◌}
use Rattle.std.specs.List.{list_any}
use Rattle.sql_tree.specs.declared.Assignment.{Assignment}
use Rattle.vschema.specs.WriteChecks.{is_key_column}
use Rattle.vschema.proofs.Assigned.{keys_resolved}
use Rattle.vschema.proofs.writes.update_sets_key.Goals as goal

pub returns : goal.returns
returns c =
    let table = c.args.table.now in
    c.sets_key.ensures ∙ ap (λ (l : List (Assignment ℕ)). list_any (λ (a : Assignment ℕ). is_key_column table a.column) l) c.requires.resolved
    ∙ keys_resolved table c.args.update.now.assignments
