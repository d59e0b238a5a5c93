use Rattle.std.proofs.Common.{length}
use Rattle.shard_store.proofs.removed_rows.+compare_columns.Given as goal

-- proposed from what the function passes where it calls itself
abbrev pub decreases-compare_columns : goal.decreases-compare_columns
decreases-compare_columns l = length l.a_columns.now
