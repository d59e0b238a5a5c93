-- The values of a row, and of a pair of rows, as they are.
use Rattle.std.specs.Prelude.{List, [], ◌∷◌, ◌++◌, map, filter}
use Rattle.vt_value.specs.Values.{Row}
use Rattle.vschema.specs.declared.schema.Join.{Join}
use Rattle.vschema.specs.Sources.{padded_row, is_pair, paired, pairs_of}
use Rattle.sql_eval.specs.declared.conditions.Seen.{Seen}
use Rattle.sql_eval.specs.declared.conditions.Seen.TheVariants as of

abbrev pub seen : Seen → Row
seen (of.Row row) = row.now
seen (of.Pair a width b) = padded_row width a.now ++ b.now

-- the pairs of the first of these rows with the rest of the others, and of each after it with all of them
abbrev pub pairs_left : Join → List Row → List Row → List Row → List Row
pairs_left j [] rest seconds = []
pairs_left j (a ∷ firsts) rest seconds = map (paired j a) (filter (is_pair j a) rest) ++ pairs_of j firsts seconds
