-- The query that shows each of its items once, and how the rows of the whole one come from its rows.
use Rattle.std.specs.Prelude.{ℕ, ◌+◌, ◌*◌, ◌==◌, Bool, not, List, [], ◌∷◌, filter, Option, Some, None}
use Rattle.vt_value.specs.Values.{Row}
use Rattle.sql_tree.specs.declared.Item.{Item}
use Rattle.sql_tree.specs.declared.Item.TheVariants.{Column, CountRows, Count, Sum, Min, Max}
use Rattle.aggregate.specs.Slices.{shown_at}
use Rattle.vschema.specs.declared.schema.Query.{Query}
use Rattle.sql_eval.specs.Queries.{IsAnswer}
use Rattle.sql_eval.specs.declared.narrowed.Whole.{Whole}

-- a number for each item, which no other has
abbrev pub item_code : Item ℕ → ℕ
item_code (Column n) = 6 * n
item_code CountRows = 1
item_code (Count n) = 6 * n + 2
item_code (Sum n) = 6 * n + 3
item_code (Min n) = 6 * n + 4
item_code (Max n) = 6 * n + 5

abbrev pub same_item : Item ℕ → Item ℕ → Bool
same_item i j = item_code i == item_code j

-- each item once, in the order in which they come first
abbrev pub distinct_items : List (Item ℕ) → List (Item ℕ)
distinct_items [] = []
distinct_items (i ∷ items) = i ∷ filter (λ j. not (same_item i j)) (distinct_items items)

-- the query that shows each item once
abbrev pub narrowed : Query → Query
narrowed q = record q { items = distinct_items q.items }

-- the items of the whole query, from those of the narrowed one
abbrev pub whole_items : Option Whole → List (Item ℕ) → List (Item ℕ)
whole_items None items = items
whole_items (Some w) items = w.items

-- where each of them stands among those of the narrowed one; without ordinals each is where it is
abbrev pub whole_ordinals : Option Whole → Option (List ℕ)
whole_ordinals None = None
whole_ordinals (Some w) = Some w.ordinals

-- Over whatever rows: of each answer of the narrowed query the columns at these ordinals are an answer of the query.
pub record ShowsAt (q : Query) (ordinals : Option (List ℕ)) : Type 0 where
  pub answers : (rows list : List Row) → IsAnswer (narrowed q) rows list → IsAnswer q rows (shown_at ordinals list)
