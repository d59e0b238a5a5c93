use Rattle.std.proofs.Common.{◌≡◌, ◌++◌, take, map}
use Rattle.vschema_json.proofs.twice.with_tables.Given as goal

abbrev pub invariant-loop-table : goal.invariant-loop-table
invariant-loop-table l = map (λ n. n.now) l.all.items ≡ map (λ n. n.now) l.fn.texts.items ++ map (λ t. t.name) (take l.table-index l.tables)
