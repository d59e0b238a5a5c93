use Rattle.std.proofs.Common.{◌≡◌, ◌++◌, ◌∷◌, [], List, length, map, take, drop}
use Rattle.vt_value.specs.Values.{Row as Line}
use Rattle.sql_eval.specs.inner.Totals.{total_of, totals_of}
use Rattle.sql_eval.proofs.totals.add_row.Given as goal

-- the first aggregates have the row
abbrev pub invariant-loop-i : goal.invariant-loop-i
invariant-loop-i l = record {
  all : (rows : List Line) → l.fn.totals ≡ totals_of l.aggregates rows
      → l.totals ≡ map (total_of (rows ++ l.row ∷ [])) (take l.i l.aggregates) ++ map (total_of rows) (drop l.i l.aggregates);
  each : length l.totals ≡ length l.aggregates;
  same : length l.totals ≡ length l.fn.totals;
}
