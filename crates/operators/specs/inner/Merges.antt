-- What a merge gives: the first of the least rows that its inputs begin with, and then what the merge of the rest gives.
use Rattle.std.specs.Prelude.{◌≡◌, ℕ, ◌<◌, Bool, true, false, List, [], ◌∷◌, length, map, slice_index_or, Option, Some, None, if◌then◌else◌}
use Rattle.std.specs.Ordering.{is_lt}
use Rattle.sql_tree.specs.declared.Key.{Key}
use Rattle.vt_value.specs.Values.{Row}
use Rattle.operators.specs.Orders.{row_cmp}
use Rattle.operators.specs.declared.merging.Head.{Head}

module _ {X : Type 0} (lt : X → X → Bool) where
  -- x ∷ xs and a list, where `rest` merges xs with a list
  abbrev pub merged_from : X → List X → (List X → List X) → List X → List X
  merged_from x xs rest [] = x ∷ xs
  merged_from x xs rest (y ∷ ys) = if lt y x then y ∷ merged_from x xs rest ys else x ∷ rest (y ∷ ys)

  abbrev pub merged : List X → List X → List X
  merged [] ys = ys
  merged (x ∷ xs) ys = merged_from x xs (merged xs) ys

  abbrev pub all_merged : List (List X) → List X
  all_merged [] = []
  all_merged (list ∷ lists) = merged list (all_merged lists)

  -- the order of what two lists begin with: an empty one comes last
  abbrev pub earlier : Option X → Option X → Bool
  earlier None b = false
  earlier (Some x) None = true
  earlier (Some x) (Some y) = lt x y

-- whether a row comes before another
abbrev pub row_lt : List (Key ℕ) → Row → Row → Bool
row_lt keys a b = is_lt (row_cmp keys a b)

abbrev pub rows_from : Option Row → List Row → List Row
rows_from None rows = []
rows_from (Some row) rows = row ∷ rows

-- the row of a head, and those of its input
abbrev pub head_rows : {O : Type 0} → (O → List Row) → Head O → List Row
head_rows to_come head = rows_from head.row (to_come head.input)

abbrev pub head_row : {O : Type 0} → List (Head O) → ℕ → Option Row
head_row heads ordinal = slice_index_or (map (λ h. h.row) heads) ordinal None

-- the first of the least rows
pub record IsFirst {O : Type 0} (lt : Row → Row → Bool) (heads : List (Head O)) (ordinal : ℕ) : Type 0 where
  pub within : ordinal < length heads
  pub before : (j : ℕ) → j < ordinal → earlier lt (head_row heads ordinal) (head_row heads j) ≡ true
  pub trailing : (j : ℕ) → ordinal < j → j < length heads → earlier lt (head_row heads j) (head_row heads ordinal) ≡ false
