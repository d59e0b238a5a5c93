-- Where in a transaction's list of changes those of a key are.
use Rattle.std.specs.Prelude.{◌≡◌, ℕ, ◌+◌, Bool, true, ◌&&◌, ◌||◌, ◌==◌, ◌<◌, ◌≤◌, if◌then◌else◌, List, slice_get, Some, None}
use Rattle.std.specs.List.{list_any}
use Rattle.vt_value.specs.Values.{Row}
use Rattle.vschema.specs.declared.changes.RowChange.{RowChange}
use Rattle.vschema.specs.declared.changes.RowChange.TheVariants.{Added, Replaced, Removed}
use Rattle.vschema.specs.Checks.{has_number}
use Rattle.vschema.specs.Database.{same_row, changed_table}
use Rattle.shard_store.specs.Tables.{key_at}
use Rattle.shard_store.specs.declared.key.RowKey.{RowKey}
use Rattle.shard_contents.specs.inner.Stores.{row_after}

-- of one table: the ordinals of its key columns, and keys of rows, each with the position of a change of such a row
pub record ByKeyView : Type 0 where
  pub table : ℕ
  pub columns : List ℕ
  pub positions : List (RowKey × ℕ)

-- a key has the position
abbrev pub has_position : ByKeyView → Row → ℕ → Bool
has_position view key n = list_any (λ p. same_row key p.0.values && (p.1 == n)) view.positions

-- a key is one of these
abbrev pub is_key_among : List RowKey → Row → Bool
is_key_among keys key = list_any (λ k. same_row k.values key) keys

-- the key of a row of the table has the position
abbrev pub is_positioned : ℕ → ℕ → Row → ByKeyView → Bool
is_positioned n table row view = (view.table == table) && has_position view (key_at view.columns row) n

-- and so has that of each row of the change there
abbrev pub IsPositioned : List ByKeyView → ℕ → RowChange → Type 0
IsPositioned views n (Added table row) = list_any (is_positioned n table row) views ≡ true
IsPositioned views n (Replaced table old new) = (list_any (is_positioned n table old) views ≡ true) × (list_any (is_positioned n table new) views ≡ true)
IsPositioned views n (Removed table row) = list_any (is_positioned n table row) views ≡ true

-- of each change of the list
pub record ArePositioned (views : List ByKeyView) (changes : List RowChange) : Type 0 where
  pub at : (n : ℕ) (c : RowChange) → slice_get changes n ≡ Some c → IsPositioned views n c

-- of each change of a list whose first one has this position
abbrev pub ArePositionedFrom : ℕ → List ByKeyView → List RowChange → Type 0
ArePositionedFrom first views changes = (n : ℕ) (c : RowChange) → slice_get changes n ≡ Some c → IsPositioned views (first + n) c

-- what has a position in one has it in the other
abbrev pub HaveMore : List ByKeyView → List ByKeyView → Type 0
HaveMore views more = (n : ℕ) (table : ℕ) (row : Row) → list_any (is_positioned n table row) views ≡ true → list_any (is_positioned n table row) more ≡ true

-- the change is of a row of the table that passes
abbrev pub concerns : (Row → Bool) → ℕ → RowChange → Bool
concerns p table (Added n row) = (n == table) && p row
concerns p table (Replaced n old new) = (n == table) && (p old || p new)
concerns p table (Removed n row) = (n == table) && p row

-- the position of each such change is one of these
abbrev pub HasPositions : (Row → Bool) → ℕ → List RowChange → List ℕ → Type 0
HasPositions p table changes positions = (n : ℕ) (c : RowChange) → slice_get changes n ≡ Some c → concerns p table c ≡ true → has_number positions n ≡ true

-- rows after the change at a position, if it isn't before the next one, there is one and it is of the table; and the position after it
pub record IsDoneAt (table : ℕ) (changes : List RowChange) (next position : ℕ) (rows after : List Row) (passed : ℕ) : Type 0 where
  pub past : position < next → (after ≡ rows) × (passed ≡ next)
  pub none : slice_get changes position ≡ None → (after ≡ rows) × (passed ≡ next)
  pub here : (c : RowChange) → next ≤ position → slice_get changes position ≡ Some c
      → (after ≡ (if changed_table c == table then row_after c rows else rows)) × (passed ≡ position + 1)
