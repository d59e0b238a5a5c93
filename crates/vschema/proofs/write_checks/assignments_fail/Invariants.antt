use Rattle.std.proofs.Common.{◌≡◌, drop}
use Rattle.std.specs.Prelude.{flat_map}
use Rattle.std.specs.List.{list_any}
use Rattle.vschema.specs.WriteChecks.{with_column}
use Rattle.vschema.specs.inner.StoredChecks.{fails}
use Rattle.vschema.proofs.write_checks.assignments_fail.Given as goal

abbrev pub invariant-loop-a : goal.invariant-loop-a
invariant-loop-a l =
    list_any (fails l.check) (flat_map (λ a. with_column l.table a.column a.value) (drop l.a-index l.assignments))
    ≡ list_any (fails l.check) (flat_map (λ a. with_column l.table a.column a.value) l.assignments)
