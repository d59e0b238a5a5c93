use Rattle.std.proofs.Common.{◌≡◌, drop}
use Rattle.std.specs.Prelude.{flat_map, zip}
use Rattle.std.specs.List.{list_any}
use Rattle.vschema.specs.WriteChecks.{with_column}
use Rattle.vschema.specs.inner.StoredChecks.{fails}
use Rattle.vschema.proofs.write_checks.rows_fail.Given as goal

abbrev pub invariant-loop-row : goal.invariant-loop-row
invariant-loop-row l =
    list_any (fails l.check) (flat_map (λ row. flat_map (λ p. with_column l.table p.0 p.1) (zip l.ordinals row)) (drop l.row-index l.rows))
    ≡ list_any (fails l.check) (flat_map (λ row. flat_map (λ p. with_column l.table p.0 p.1) (zip l.ordinals row)) l.rows)
