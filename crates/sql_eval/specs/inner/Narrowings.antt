-- What is known of a select list so far, and of a query that stands for a whole one.
use Rattle.std.specs.Prelude.{◌≡◌, ℕ, Bool, true, false, ◌&&◌, not, List, [], ◌∷◌, map, slice_get, Option, Some, None}
use Rattle.std.specs.List.{list_any}
use Rattle.std.specs.Ordering.{nat_cmp}
use Rattle.std.specs.BTreeMap.{get}
use Rattle.sql_tree.specs.declared.Item.{Item}
use Rattle.vschema.specs.declared.schema.Query.{Query}
use Rattle.sql_eval.specs.Narrowing.{item_code, same_item, distinct_items, narrowed, whole_items, whole_ordinals, ShowsAt}
use Rattle.sql_eval.specs.declared.narrowed.Seen.{Seen}
use Rattle.sql_eval.specs.declared.narrowed.Whole.{Whole}

abbrev pub has_item : Item ℕ → List (Item ℕ) → Bool
has_item i items = list_any (same_item i) items

-- no item is there twice
abbrev pub are_apart : List (Item ℕ) → Bool
are_apart [] = true
are_apart (i ∷ items) = not (has_item i items) && are_apart items

-- each item so far is once among the distinct ones, at its position, by its number
pub record IsSeen (items : List (Item ℕ)) (s : Seen) : Type 0 where
  pub distinct : s.items ≡ distinct_items items
  pub shown : map (slice_get s.items) s.ordinals ≡ map Some items
  pub known : (i : Item ℕ) (p : ℕ) → get nat_cmp s.by_code (item_code i) ≡ Some p → slice_get s.items p ≡ Some i
  pub unknown : (i : Item ℕ) → get nat_cmp s.by_code (item_code i) ≡ None → has_item i s.items ≡ false

-- the query that is run, and what it stands for
abbrev pub whole_query : Query → Option Whole → Query
whole_query q w = record q { items = whole_items w q.items }

pub record IsNarrowing (q : Query) (w : Option Whole) : Type 0 where
  pub narrow : q ≡ narrowed (whole_query q w)
  pub shows : ShowsAt (whole_query q w) (whole_ordinals w)
