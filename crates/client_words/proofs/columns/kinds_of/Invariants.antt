use Rattle.std.proofs.Common.{◌≡◌, ◌++◌, drop, map, not}
use Rattle.vschema.specs.Checks.{is_text_type}
use Rattle.client_words.proofs.columns.kinds_of.Given as goal

abbrev pub invariant-loop-column : goal.invariant-loop-column
invariant-loop-column l = l.kinds ++ map (λ c. not (is_text_type c.kind)) (drop l.column-index l.columns) ≡ map (λ c. not (is_text_type c.kind)) l.columns
