-- What an INSERT, an UPDATE or a DELETE means under a VSchema: the typed write, or the first refusal that applies, in a
-- fixed order.
use Rattle.std.specs.Prelude.{◌≡◌, ℕ, Bool, List, [], ◌∷◌, map, ◌==◌, slice_get, Option, Some, None, option_map, option_and_then, unwrap_or, Result, Ok, Err, if◌then◌else◌}
use Rattle.vt_value.specs.declared.value.Value.{Value}
use Rattle.vt_value.specs.declared.value.Value.TheVariants.{Null}
use Rattle.vt_value.specs.declared.refusal.Refusal.{Refusal}
use Rattle.vt_value.specs.declared.refusal.Refusal.TheVariants.{UnknownTable, ColumnNamedTwice, WrongValueCount, UnknownColumn, NotSupported, NoDefaultValue, NullNotAllowed, OutOfRange, TooLong}
use Rattle.vt_value.specs.Values.{Row}
use Rattle.sql_tree.specs.declared.Assignment.{Assignment}
use Rattle.sql_tree.specs.declared.Insert as I
use Rattle.sql_tree.specs.declared.Update as U
use Rattle.sql_tree.specs.declared.Delete as D
use Rattle.vschema.specs.declared.schema.Table.{Table}
use Rattle.vschema.specs.declared.schema.VSchema.{VSchema}
use Rattle.vschema.specs.declared.changes.Write.{Write}
use Rattle.vschema.specs.declared.changes.Write.TheVariants.{Insert, Update, Delete}
use Rattle.vschema.specs.Schema.{table_ordinal, ordinal_from}
use Rattle.vschema.specs.Scopes.{only}
use Rattle.vschema.specs.Resolved.{Name, ordinal, ordinals_from, resolved_condition}
use Rattle.vschema.specs.WriteChecks.{Stored, has_twice, sets_twice, insert_names, insert_ordinals, has_wrong_count, insert_names_unknown, update_names_unknown, delete_names_unknown, inserted_values, assigned_values, has_other_kind, has_wrong_null, has_out_of_range, has_too_long, leaves_out_column, update_is_not_supported, delete_is_not_supported}

-- the write, or the refusal of the first check that fails
abbrev pub unless_refused : List (Bool × Refusal) → Write → Result Write Refusal
unless_refused [] w = Ok w
unless_refused ((fails, r) ∷ checks) w = if fails then Err r else unless_refused checks w

-- the checks of what is stored, after that of its kinds
abbrev pub stored_checks : Stored → List (Bool × Refusal)
stored_checks stored =
    (has_wrong_null stored, NullNotAllowed) ∷ (has_out_of_range stored, OutOfRange) ∷ (has_too_long stored, TooLong) ∷ []

abbrev pub insert_checks : Table → I.Insert → List (Bool × Refusal)
insert_checks t s =
    (has_twice (insert_names s), ColumnNamedTwice) ∷ (has_wrong_count t s, WrongValueCount)
    ∷ (insert_names_unknown t s, UnknownColumn) ∷ (has_other_kind (inserted_values t s), NotSupported)
    ∷ (leaves_out_column t s, NoDefaultValue) ∷ stored_checks (inserted_values t s)

abbrev pub update_checks : Table → U.Update → List (Bool × Refusal)
update_checks t s =
    (sets_twice s.assignments, ColumnNamedTwice) ∷ (update_names_unknown t s, UnknownColumn)
    ∷ (update_is_not_supported t s, NotSupported) ∷ stored_checks (assigned_values t s)

abbrev pub delete_checks : Table → D.Delete → List (Bool × Refusal)
delete_checks t s = (delete_names_unknown t s, UnknownColumn) ∷ (delete_is_not_supported t s, NotSupported) ∷ []

-- the value of INSERT's row for a column, NULL if it isn't named
abbrev pub value_for : List ℕ → List Value → ℕ → Value
value_for ordinals values n = unwrap_or (option_and_then (slice_get values) (ordinal_from (λ m. m == n) 0 ordinals)) Null

-- a row of INSERT in the order of the table's columns
abbrev pub whole_row : Table → List ℕ → List Value → Row
whole_row t ordinals values = map (value_for ordinals values) (ordinals_from 0 t.columns)

abbrev pub resolved_assignment : Table → Assignment Name → Assignment ℕ
resolved_assignment t a = record { column = ordinal t a.column; value = a.value }

-- the writes over the table at an ordinal of the VSchema
abbrev pub insert_over : ℕ → Table → I.Insert → Write
insert_over n t s = Insert n (map (whole_row t (insert_ordinals t s.columns)) s.rows)

abbrev pub update_over : ℕ → Table → U.Update → Write
update_over n t s =
    Update n (map (resolved_assignment t) s.assignments) (option_map (resolved_condition (only t)) s.filter)

abbrev pub delete_over : ℕ → Table → D.Delete → Write
delete_over n t s = Delete n (option_map (resolved_condition (only t)) s.filter)

abbrev pub on_table : (ℕ → Table → Result Write Refusal) → ℕ → Option Table → Result Write Refusal
on_table typed n None = Err UnknownTable
on_table typed n (Some t) = typed n t

abbrev pub on_place : VSchema → (ℕ → Table → Result Write Refusal) → Option ℕ → Result Write Refusal
on_place schema typed None = Err UnknownTable
on_place schema typed (Some n) = on_table typed n (slice_get schema.tables n)

-- what is typed over the table of this name
abbrev pub on_name : VSchema → Name → (ℕ → Table → Result Write Refusal) → Result Write Refusal
on_name schema name typed = on_place schema typed (table_ordinal schema name)

abbrev pub typed_insert : VSchema → I.Insert → Result Write Refusal
typed_insert schema s = on_name schema s.table (λ n t. unless_refused (insert_checks t s) (insert_over n t s))

abbrev pub typed_update : VSchema → U.Update → Result Write Refusal
typed_update schema s = on_name schema s.table (λ n t. unless_refused (update_checks t s) (update_over n t s))

abbrev pub typed_delete : VSchema → D.Delete → Result Write Refusal
typed_delete schema s = on_name schema s.table (λ n t. unless_refused (delete_checks t s) (delete_over n t s))

-- some statement means the write
pub data IsTypedWrite (schema : VSchema) (w : Write) : Type 0 where
  insert : (s : I.Insert) → typed_insert schema s ≡ Ok w → IsTypedWrite schema w
  update : (s : U.Update) → typed_update schema s ≡ Ok w → IsTypedWrite schema w
  delete : (s : D.Delete) → typed_delete schema s ≡ Ok w → IsTypedWrite schema w
