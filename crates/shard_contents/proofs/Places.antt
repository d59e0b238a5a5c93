-- The changes of a write lie in the place in which its rows lie.
use Rattle.std.proofs.Common.{◌≡◌, ℕ, zero, suc, Bool, true, false, cond, ◌&&◌, ◌==◌, List, [], ◌∷◌, get_or, map, filter, flat_map, Ok, Err, refl, ◌∙◌, subst, Option}
use Rattle.std.specs.List.{AllByRecursion, list_all}
use Rattle.std.proofs.lemmas.Bool.{and_from}
use Rattle.std.proofs.lemmas.List.Elements.{All-from_recursion, recursion_from_All}
use Rattle.std.proofs.lemmas.List.Folds.{list_all-map}
use Rattle.std.proofs.lemmas.List.Sorted.{All-permutation, IsPermutation-sym}
use Rattle.vschema.specs.Ranges.{has_id}
use Rattle.vt_value.specs.Values.{Row}
use Rattle.vt_value.specs.declared.refusal.Refusal.TheVariants.{DuplicateKey}
use Rattle.sql_tree.specs.declared.Assignment.{Assignment}
use Rattle.sql_tree.specs.declared.Condition.{Condition}
use Rattle.vschema.specs.declared.schema.Place.{Place}
use Rattle.vschema.specs.declared.schema.Table.{Table}
use Rattle.vschema.specs.declared.schema.VSchema.{VSchema}
use Rattle.vschema.specs.declared.changes.Write.{Write}
use Rattle.vschema.specs.declared.changes.Write.TheVariants.{Insert, Update, Delete}
use Rattle.vschema.specs.declared.changes.RowChange.{RowChange}
use Rattle.vschema.specs.declared.changes.RowChange.TheVariants.{Added, Replaced, Removed}
use Rattle.vschema.specs.Schema.{no_table}
use Rattle.vschema.specs.Database.{Database, SameRows, rows_of, restrict, restricted, lies_in, change_lies_in, same_row}
use Rattle.shard_store.specs.Conditions.{is_kept}
use Rattle.shard_store.specs.Writes.{has_duplicate, assigned, row_updates, written_table, changes_of}
use Rattle.shard_store.proofs.ChangeLemmas.{ok_is, rows-same}
use Rattle.shard_law.proofs.Keeps.{id_kept}
use Rattle.shard_law.proofs.Typed.{keeps_keys}
use Rattle.shard_law.proofs.Lists.{all-filter, all-flat_map, all-weaker, all-passed}
use Rattle.shard_contents.specs.Commits.{IsPlaced}

pub list_all_from : {X : Type 0} (p : X → Bool) (xs : List X) → AllByRecursion (λ x. p x ≡ true) xs → list_all p xs ≡ true
list_all_from p [] h = refl
list_all_from p (x ∷ xs) h = and_from (p x) (list_all p xs) h.0 (list_all_from p xs h.1)

abbrev Lie : Place → Table → List Row → Type 0
Lie place t rows = AllByRecursion (λ row. lies_in place t row ≡ true) rows

restricted_lie : (place : Place) (tables : List Table) (db : Database) (n : ℕ) → Lie place (get_or tables n no_table) (get_or (restricted tables place db) n [])
restricted_lie place [] db n = tt
restricted_lie place (t ∷ tables) [] n = tt
restricted_lie place (t ∷ tables) (rows ∷ db) zero = all-passed (lies_in place t) rows
restricted_lie place (t ∷ tables) (rows ∷ db) (suc n) = restricted_lie place tables db n

-- the rows of a database that has the same rows as a place
pub rows_lie : (schema : VSchema) (place : Place) (held all : Database) → SameRows held (restrict schema place all) → (n : ℕ)
    → Lie place (get_or schema.tables n no_table) (rows_of held n)
rows_lie schema place held all same n =
    let P : Row → Type 0 = λ row. lies_in place (get_or schema.tables n no_table) row ≡ true in
    recursion_from_All P (rows_of held n) (All-permutation P (rows_of (restrict schema place all) n) (rows_of held n)
    (IsPermutation-sym (rows_of held n) (rows_of (restrict schema place all) n) (rows-same held (restrict schema place all) same n))
    (All-from_recursion P (rows_of (restrict schema place all) n) (restricted_lie place schema.tables all n)))

abbrev AreIn : VSchema → Place → List RowChange → Type 0
AreIn schema place changes = AllByRecursion (λ c. change_lies_in schema place c ≡ true) changes

removed_in : (schema : VSchema) (place : Place) (n : ℕ) (rows : List Row) → Lie place (get_or schema.tables n no_table) rows → AreIn schema place (map (Removed n) rows)
removed_in schema place n [] h = tt
removed_in schema place n (row ∷ rows) h = (h.0, removed_in schema place n rows h.1)

updates_in : (schema : VSchema) (place : Place) (n : ℕ) (assignments : List (Assignment ℕ)) (condition : Option (Condition ℕ))
    → keeps_keys schema (Update n assignments condition) ≡ true → (row : Row) → lies_in place (get_or schema.tables n no_table) row ≡ true
    → AreIn schema place (row_updates n assignments condition row)
updates_in schema place n assignments condition keeps row lies = by (is_kept condition row) (same_row row (assigned assignments row))
  where
    t : Table
    t = get_or schema.tables n no_table

    by : (b c : Bool) → AreIn schema place (cond b (cond c [] (Replaced n row (assigned assignments row) ∷ [])) [])
    by true true = tt
    by true false =
        let t = get_or schema.tables n no_table in
        (subst (λ id. ((t.keyspace == place.keyspace) && has_id place.range id) ≡ true) (id_kept t assignments keeps row) lies, tt)
    by false c = tt

pub changes_in : (schema : VSchema) (place : Place) (w : Write) (db : Database) (changes : List RowChange) → keeps_keys schema w ≡ true
    → IsPlaced schema place w → Lie place (get_or schema.tables (written_table w) no_table) (rows_of db (written_table w))
    → changes_of schema w db ≡ Ok changes → list_all (change_lies_in schema place) changes ≡ true
changes_in schema place (Insert n new) db changes keeps placed lie e = by (has_duplicate (get_or schema.tables n no_table) (rows_of db n) new) e
  where
    by : (b : Bool) → cond b (Err DuplicateKey) (Ok (map (Added n) new)) ≡ Ok changes → list_all (change_lies_in schema place) changes ≡ true
    by true e = absurd (cc e)
    by false e =
        subst (λ l. list_all (change_lies_in schema place) l ≡ true) (ok_is (map (Added n) new) changes e)
        (list_all-map (change_lies_in schema place) (Added n) new ∙ placed)
changes_in schema place (Update n assignments condition) db changes keeps placed lie e =
    subst (λ l. list_all (change_lies_in schema place) l ≡ true) (ok_is (flat_map (row_updates n assignments condition) (rows_of db n)) changes e)
    (list_all_from (change_lies_in schema place) (flat_map (row_updates n assignments condition) (rows_of db n))
    (all-flat_map (λ c. change_lies_in schema place c ≡ true) (row_updates n assignments condition) (rows_of db n)
    (all-weaker (λ row. lies_in place (get_or schema.tables n no_table) row ≡ true)
    (λ row. AreIn schema place (row_updates n assignments condition row)) (updates_in schema place n assignments condition keeps) (rows_of db n) lie)))
changes_in schema place (Delete n condition) db changes keeps placed lie e =
    subst (λ l. list_all (change_lies_in schema place) l ≡ true) (ok_is (map (Removed n) (filter (is_kept condition) (rows_of db n))) changes e)
    (list_all_from (change_lies_in schema place) (map (Removed n) (filter (is_kept condition) (rows_of db n)))
    (removed_in schema place n (filter (is_kept condition) (rows_of db n))
    (all-filter (λ row. lies_in place (get_or schema.tables n no_table) row ≡ true) (is_kept condition) (rows_of db n) lie)))
