use Rattle.std.proofs.Common.{ℕ, List, bytes_eq, ap, ◌∙◌}
use Rattle.vschema_json.specs.declared.column.Column.{Column}
use Rattle.vschema_json.specs.declared.document.DeclaredTable.{DeclaredTable}
use Rattle.vschema_json.specs.Places.{ordinal_from}
use Rattle.vschema_json.specs.Faults.{ordinal_of}
use Rattle.vschema_json.proofs.Named.{ordinal_mapped}
use Rattle.vschema_json.proofs.indexes.TableIndex.ordinal_of.Goals as goal

pub returns : goal.returns
returns c =
    let name = c.args.name.now in
    c.ordinal_of.ensures ∙ ap (ordinal_from (λ (n : List ℕ). bytes_eq n name) 0) c.self.invariant
    ∙ ordinal_mapped (λ (x : Column). x.name) name c.self.inside.table.now.columns ∙ ap (λ (t : DeclaredTable). ordinal_of t name) c.self.view_is
