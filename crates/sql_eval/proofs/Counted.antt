-- The row of aggregates over all rows.
use Rattle.std.proofs.Common.{◌≡◌, ℕ, ◌+◌, ◌<◌, true, List, [], ◌∷◌, ◌++◌, length, map, filter, take, get_or, pos, refl, sym, ap, ◌∙◌}
use Rattle.std.proofs.lemmas.List.{take_more, map-append}
use Rattle.std.specs.List.{list_all}
use Rattle.vt_value.specs.declared.value.Value.TheVariants.{Int}
use Rattle.vt_value.specs.Values.{Row}
use Rattle.sql_tree.specs.declared.Item.{Item}
use Rattle.sql_tree.specs.declared.Item.TheVariants.{Column, CountRows, Count, Sum, Min, Max}
use Rattle.aggregate.specs.Groups.{joined_parts, joined_rows}
use Rattle.vschema.specs.declared.schema.Query.{Query}
use Rattle.sql_eval.specs.Conditions.{is_kept}
use Rattle.sql_eval.specs.Counts.{is_count_rows, CountsAll}
use Rattle.sql_eval.specs.Grouping.{aggregates_of}
use Rattle.sql_eval.specs.inner.Parts.{row_part, part_row, grouped_rows, counted_row}
use Rattle.sql_eval.specs.inner.Totals.{totals_of}
use Rattle.sql_eval.proofs.GroupLemmas.{joined_each, ones}
use Rattle.sql_eval.proofs.DistinctRows.{filter_true}

-- one count more
pub counted_more : (aggregates : List (Item ℕ)) (i n : ℕ) → i < length aggregates
    → counted_row (take (i + 1) aggregates) n ≡ counted_row (take i aggregates) n ++ Int (pos n) ∷ []
counted_more aggregates i n within =
    ap (λ (l : List (Item ℕ)). counted_row l n) (take_more aggregates i CountRows within)
    ∙ map-append (λ a. Int (pos n)) (take i aggregates) (get_or aggregates i CountRows ∷ [])

-- counts of rows are what COUNT(*) gives of each of them
pub counted_is : (aggregates : List (Item ℕ)) (rows : List Row) → list_all is_count_rows aggregates ≡ true → counted_row aggregates (length rows) ≡ totals_of aggregates rows
counted_is [] rows e = refl
counted_is (CountRows ∷ aggregates) rows e = (λ i. Int (sym (ones rows) i) ∷ counted_is aggregates rows e i)
counted_is (Column c ∷ aggregates) rows e = absurd cc
counted_is (Count c ∷ aggregates) rows e = absurd cc
counted_is (Sum c ∷ aggregates) rows e = absurd cc
counted_is (Min c ∷ aggregates) rows e = absurd cc
counted_is (Max c ∷ aggregates) rows e = absurd cc

-- all rows are one group
pub together_is : (columns : List ℕ) (items : List (Item ℕ)) (rows : List Row) → columns ≡ []
    → totals_of (aggregates_of items) rows ∷ [] ≡ joined_rows (aggregates_of items) (length columns) (map (part_row columns (aggregates_of items)) rows)
together_is [] items rows none =
    let aggregates = aggregates_of items in
    ap (λ z. z ∷ [])
    (sym (ap (joined_parts aggregates 0) (filter_true (map (part_row [] aggregates) rows)) ∙ joined_each aggregates 0 (part_row [] aggregates) row_part rows (λ row. refl)))
together_is (c ∷ columns) items rows none = absurd (cc none)

all_counts : (items : List (Item ℕ)) → list_all is_count_rows items ≡ true → aggregates_of items ≡ items
all_counts [] e = refl
all_counts (CountRows ∷ items) e = ap (λ l. CountRows ∷ l) (all_counts items e)
all_counts (Column c ∷ items) e = absurd cc
all_counts (Count c ∷ items) e = absurd cc
all_counts (Sum c ∷ items) e = absurd cc
all_counts (Min c ∷ items) e = absurd cc
all_counts (Max c ∷ items) e = absurd cc

-- the one group of a query that asks for nothing but the number of all rows
pub count_groups : (q : Query) (rows : List Row) → CountsAll q → counted_row q.items (length rows) ∷ [] ≡ grouped_rows q (filter (is_kept q.filter) rows)
count_groups q rows h =
    let kept : filter (is_kept q.filter) rows ≡ rows = ap (λ f. filter (is_kept f) rows) h.0 ∙ filter_true rows in
    ap (λ z. z ∷ []) (counted_is q.items rows h.3 ∙ ap (λ (l : List (Item ℕ)). totals_of l rows) (sym (all_counts q.items h.3)))
    ∙ together_is q.group_by q.items rows h.1 ∙ ap (grouped_rows q) (sym kept)
