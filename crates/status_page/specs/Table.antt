-- The table of shards on the page.
use Rattle.std.specs.Prelude.{◌≡◌, ℕ, List, [], ◌∷◌, ◌++◌, ◌*◌, ◌/◌, ◌%◌, ◌==◌, min, codes, flat_map, if◌then◌else◌}
use Rattle.std.specs.Fmt.{decimal}
use Rattle.status_figures.specs.Names.{range_text}
use Rattle.status_figures.specs.declared.figures.ShardFigures.{ShardFigures}
use Rattle.status_page.specs.Shards.{mode_text}

-- a byte of a text in HTML
abbrev pub escaped_byte : ℕ → List ℕ
escaped_byte b =
    if b == 0x3C then codes "&lt;" else if b == 0x3E then codes "&gt;" else if b == 0x26 then codes "&amp;"
    else if b == 0x22 then codes "&quot;" else b ∷ []

unfoldable pub escaped_text : List ℕ → List ℕ
escaped_text text = flat_map escaped_byte text

-- how many thousandths of a limit a count is, at most all
unfoldable pub thousandths : ℕ → ℕ → ℕ
thousandths count limit = if limit == 0 then 1000 else min (count * 1000 / limit) 1000

-- thousandths in hundredths, with one decimal
unfoldable pub tenths_text : ℕ → List ℕ
tenths_text part = decimal (part / 10) ++ codes "." ++ decimal (part % 10)

unfoldable pub share_text : ℕ → ℕ → List ℕ
share_text count limit = codes "<td>" ++ decimal count ++ codes "<td>" ++ tenths_text (thousandths count limit) ++ codes " %"

-- which shard it is
unfoldable pub row_begin : List ℕ
row_begin = codes "<tr data-slot="

unfoldable pub range_begin : List ℕ
range_begin = codes "><th scope=row>"

unfoldable pub range_cell : ShardFigures → List ℕ
range_cell s = range_begin ++ range_text s.range ++ codes "<td>"

unfoldable pub place_cells : ShardFigures → List ℕ
place_cells s = row_begin ++ decimal s.slot ++ range_cell s ++ escaped_text s.keyspace.now

-- what it has
unfoldable pub state_cells : ShardFigures → List ℕ
state_cells s =
    codes "<td>" ++ decimal s.slot ++ codes "<td>" ++ mode_text s.mode ++ share_text s.rows s.rows_limit ++ share_text s.stored s.stored_limit
    ++ codes "</tr>\n"

unfoldable pub shard_row : ShardFigures → List ℕ
shard_row s = place_cells s ++ state_cells s

-- the page has a row for each shard, in their order
abbrev pub ShowsShards : List ℕ → List ShardFigures → Type 0
ShowsShards page shards = (front back : List ℕ) × (page ≡ front ++ flat_map shard_row shards ++ back)
