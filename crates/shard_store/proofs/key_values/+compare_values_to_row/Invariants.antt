use Rattle.std.proofs.Common.{length}
use Rattle.shard_store.proofs.key_values.+compare_values_to_row.Given as goal

-- proposed from what the function passes where it calls itself
abbrev pub decreases-compare_values_to_row : goal.decreases-compare_values_to_row
decreases-compare_values_to_row l = length l.values.now
