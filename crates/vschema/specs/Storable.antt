-- The rows that a table may hold.
use Rattle.std.specs.Prelude.{Bool, true, false, not, ◌&&◌, ◌||◌, List, [], ◌∷◌, Some}
use Rattle.std.specs.List.{list_any, list_all}
use Rattle.vt_value.specs.declared.value.Value.{Value}
use Rattle.vt_value.specs.Values.{Row, is_null}
use Rattle.vschema_json.specs.declared.column.Column.{Column}
use Rattle.vschema.specs.declared.schema.Table.{Table}
use Rattle.vschema.specs.Schema.{key_of}
use Rattle.vschema.specs.Checks.{is_text_type, value_is_text, differ}
use Rattle.vschema.specs.WriteChecks.{is_out_of_range, is_too_long}
use Rattle.vschema.specs.Database.{Database, same_row}

-- NULL only in a nullable column, else a number or a text of the column's type
abbrev pub is_storable_value : Column → Value → Bool
is_storable_value c v =
    (c.nullable || not (is_null v)) && not (differ (Some (is_text_type c.kind)) (value_is_text v))
    && not (is_out_of_range c.kind v) && not (is_too_long c.kind v)

abbrev pub are_storable_values : List Column → List Value → Bool
are_storable_values [] [] = true
are_storable_values [] (v ∷ values) = false
are_storable_values (c ∷ columns) [] = false
are_storable_values (c ∷ columns) (v ∷ values) = is_storable_value c v && are_storable_values columns values

abbrev pub is_storable : Table → Row → Bool
is_storable t row = are_storable_values t.columns row

-- no two rows have one primary key
abbrev pub has_unique_keys : Table → List Row → Bool
has_unique_keys t [] = true
has_unique_keys t (row ∷ rows) =
    not (list_any (λ r. same_row (key_of t row) (key_of t r)) rows) && has_unique_keys t rows

-- a list of rows for each table, which it may hold
abbrev pub is_database : List Table → Database → Bool
is_database [] [] = true
is_database [] (rows ∷ db) = false
is_database (t ∷ tables) [] = false
is_database (t ∷ tables) (rows ∷ db) =
    list_all (is_storable t) rows && has_unique_keys t rows && is_database tables db
