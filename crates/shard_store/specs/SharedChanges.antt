-- What contracts see of a change whose rows others hold too.
use Rattle.sql_eval.specs.RowChange.{RowChange}
use Rattle.sql_eval.specs.RowChange.TheVariants as changes
use Rattle.shard_store.specs.declared.shared_change.ChangedRows.{ChangedRows}
use Rattle.shard_store.specs.declared.shared_change.ChangedRows.TheVariants.{Added, Replaced, Removed}

abbrev pub row_change : ChangedRows → RowChange
row_change (Added n row) = changes.Added n row
row_change (Replaced n old new) = changes.Replaced n old new
row_change (Removed n row) = changes.Removed n row
