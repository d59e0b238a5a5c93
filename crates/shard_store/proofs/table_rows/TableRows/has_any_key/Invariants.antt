use Rattle.std.proofs.Common.{◌≡◌, drop}
use Rattle.std.specs.List.{list_any}
use Rattle.sql_eval.specs.Schema.{key_of}
use Rattle.sql_eval.specs.Database.{same_row}
use Rattle.shard_store.proofs.table_rows.TableRows.has_any_key.Given as goal

-- the other new rows decide it
abbrev pub invariant-loop-row : goal.invariant-loop-row
invariant-loop-row l =
    list_any (λ n. list_any (λ r. same_row (key_of l.table n) (key_of l.table r)) l.fn.self.rows) (drop l.row-index l.new)
    ≡ list_any (λ n. list_any (λ r. same_row (key_of l.table n) (key_of l.table r)) l.fn.self.rows) l.new
