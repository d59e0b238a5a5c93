-- The pairs of one first row that are still to come.
use Rattle.std.specs.Prelude.{List, [], map, filter, Option, Some, None}
use Rattle.vt_value.specs.Values.{Row}
use Rattle.sql_eval.specs.Join.{Join}
use Rattle.sql_eval.specs.Sources.{paired, is_pair}
use Rattle.shard_store.specs.declared.joined.Partners.{Partners}

-- the pairs of a first row with the rows that are still to be paired with it
abbrev pub current_pairs : Join → Option Partners → List Row
current_pairs j None = []
current_pairs j (Some p) = map (paired j p.first.now) (filter (is_pair j p.first.now) p.seconds)
