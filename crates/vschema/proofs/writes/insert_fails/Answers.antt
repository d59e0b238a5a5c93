use Rattle.std.proofs.Common.{◌≡◌, ℕ, List, subst}
use Rattle.std.specs.Prelude.{flat_map, zip}
use Rattle.std.specs.List.{list_any}
use Rattle.vt_value.specs.declared.value.Value.{Value}
use Rattle.vschema.specs.WriteChecks.{with_column}
use Rattle.vschema.specs.inner.StoredChecks.{fails}
use Rattle.vschema.proofs.writes.insert_fails.Goals as goal

pub returns : goal.returns
returns c =
    let given : List ℕ → List (List Value) → Type 0 = λ ps rows.
    c.rows_fail.result ≡ list_any (fails c.args.check) (flat_map (λ row. flat_map (λ p. with_column c.args.table.now p.0 p.1) (zip ps row)) rows) in
    subst (λ ps. given ps c.args.insert.now.rows) c.requires.ordinals
    (subst (λ rows. given c.args.ordinals.now rows) c.as_slice.ensures c.rows_fail.ensures)
