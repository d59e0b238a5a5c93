-- Primary keys that two rows share.
use Rattle.std.specs.Prelude.{Bool, false, ◌||◌, List, [], ◌∷◌}
use Rattle.std.specs.List.{list_any}
use Rattle.vt_value.specs.Values.{Row}
use Rattle.vschema.specs.declared.schema.Table.{Table}
use Rattle.vschema.specs.Schema.{key_of}
use Rattle.vschema.specs.Database.{same_row}

abbrev pub same_key : Table → Row → Row → Bool
same_key t a b = same_row (key_of t a) (key_of t b)

-- a row has the key of the first of those after it
abbrev pub is_twin : Table → Row → List Row → Bool
is_twin t a [] = false
is_twin t a (b ∷ rows) = same_key t a b

-- two neighbours have one key
abbrev pub has_twins : Table → List Row → Bool
has_twins t [] = false
has_twins t (a ∷ rows) = is_twin t a rows || has_twins t rows

-- one of the rows has the key of one of the others
abbrev pub shares_key : Table → List Row → List Row → Bool
shares_key t others rows = list_any (λ row. list_any (λ r. same_key t r row) others) rows
