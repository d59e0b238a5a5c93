use Rattle.std.proofs.Common.{bytes_eq, ◌∙◌}
use Rattle.vschema_json.specs.declared.column.Column.{Column}
use Rattle.vschema.specs.Schema.{ordinal_from}
use Rattle.vschema.proofs.ByName.{ordinal_by_name}
use Rattle.vschema.proofs.columns.Columns.ordinal_of.Goals as goal

pub returns : goal.returns
returns c =
    let name = c.as_slice-2.result.now in
    let columns = c.self.inside.by_name.keys in
    c.get_index_of.ensures.index ∙ ordinal_by_name name columns
    ∙ (λ i. ordinal_from (λ (x : Column). bytes_eq x.name (c.as_slice-2.ensures i)) 0 (c.self.view_is i))
