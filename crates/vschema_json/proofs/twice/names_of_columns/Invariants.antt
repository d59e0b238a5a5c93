use Rattle.std.proofs.Common.{◌≡◌, take, map}
use Rattle.vschema_json.proofs.twice.names_of_columns.Given as goal

abbrev pub invariant-loop-column : goal.invariant-loop-column
invariant-loop-column l = map (λ n. n.now) l.texts.items ≡ map (λ c. c.name) (take l.column-index l.columns)
