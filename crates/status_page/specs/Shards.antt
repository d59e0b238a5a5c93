-- What the metrics show of shards.
use Rattle.std.specs.Prelude.{ℕ, List, ◌++◌, codes, flat_map}
use Rattle.std.specs.Fmt.{decimal}
use Rattle.status_figures.specs.Names.{range_text}
use Rattle.status_figures.specs.declared.figures.ShardFigures.{ShardFigures}
use Rattle.status_figures.specs.declared.figures.ShardMode.{ShardMode}
use Rattle.status_figures.specs.declared.figures.ShardMode.TheVariants.{Following, Serving, Frozen, Retired}
use Rattle.status_page.specs.declared.samples.Measure.{Measure}
use Rattle.status_page.specs.declared.samples.Measure.TheVariants.{Rows, RowsLimit, Stored, StoredLimit}
use Rattle.status_page.specs.Texts.{head_text, label_byte}

abbrev pub mode_text : ShardMode → List ℕ
mode_text Following = codes "following"
mode_text Serving = codes "serving"
mode_text Frozen = codes "frozen"
mode_text Retired = codes "retired"

abbrev pub measured : Measure → ShardFigures → ℕ
measured Rows s = s.rows
measured RowsLimit s = s.rows_limit
measured Stored s = s.stored
measured StoredLimit s = s.stored_limit

abbrev pub measure_name : Measure → List ℕ
measure_name Rows = codes "peamslik_shard_rows"
measure_name RowsLimit = codes "peamslik_shard_rows_limit"
measure_name Stored = codes "peamslik_shard_stored_entries"
measure_name StoredLimit = codes "peamslik_shard_stored_entries_limit"

abbrev pub measure_help : Measure → List ℕ
measure_help Rows = codes "Rows of a shard."
measure_help RowsLimit = codes "How many rows a shard may have."
measure_help Stored = codes "Entries that a shard has stored in its life. Each write takes one."
measure_help StoredLimit = codes "How many entries a shard may store in its life."

-- a label, with its value
unfoldable pub label_text : List ℕ → List ℕ → List ℕ
label_text name value = name ++ codes "=\"" ++ flat_map label_byte value ++ codes "\""

unfoldable pub place_labels : ShardFigures → List ℕ
place_labels s =
    codes "{" ++ label_text (codes "keyspace") s.keyspace.now ++ codes "," ++ label_text (codes "range") (range_text s.range)

unfoldable pub mode_labels : ShardFigures → List ℕ
mode_labels s =
    codes "," ++ label_text (codes "slot") (decimal s.slot) ++ codes "," ++ label_text (codes "mode") (mode_text s.mode) ++ codes "} "

unfoldable pub shard_line : Measure → ShardFigures → List ℕ
shard_line measure s = measure_name measure ++ place_labels s ++ mode_labels s ++ decimal (measured measure s) ++ codes "\n"

-- a family that has a sample for each shard
unfoldable pub shards_text : Measure → List ShardFigures → List ℕ
shards_text measure shards =
    head_text (measure_name measure) (measure_help measure) (codes "gauge") ++ flat_map (shard_line measure) shards

-- all that is shown of shards
unfoldable pub all_shards_text : List ShardFigures → List ℕ
all_shards_text shards =
    shards_text Rows shards ++ shards_text RowsLimit shards ++ shards_text Stored shards ++ shards_text StoredLimit shards
