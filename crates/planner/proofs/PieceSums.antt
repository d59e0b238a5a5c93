-- Counts and sums of the groups that shards give fit: of at most 64 shards, with at most 2^20 rows each.
use Rattle.std.proofs.Common.{◌≡◌, ℕ, zero, suc, ◌+◌, ◌*◌, ◌≤◌, ◌^◌, Bool, true, false, cond, List, [], ◌∷◌, ◌++◌, length, map, filter, flat_map, take, IsPermutation, refl, sym, ap, subst, ◌∙◌, arith, Option, Some, None}
use Rattle.std.specs.Prelude.{not}
use Rattle.std.specs.Ordering.{is_lt}
use Rattle.std.specs.List.{AllByRecursion}
use Rattle.std.proofs.lemmas.List.{length-map}
use Rattle.std.proofs.lemmas.List.Sums.{sum_by-cons, sum_by-append}
use Rattle.std.proofs.lemmas.List.Sorted.{sum_by-IsPermutation}
use Rattle.vt_value.specs.declared.value.Value.{Value}
use Rattle.vt_value.specs.Values.{Row, value_at, value_cmp, same_row}
use Rattle.sql_tree.specs.declared.Item.{Item}
use Rattle.sql_tree.specs.declared.Item.TheVariants.{Column, CountRows, Count, Sum, Min, Max}
use Rattle.sql_eval.specs.Aggregates.{present, size, sizes, sum_of, least_of, greatest_of, IsColumnValue}
use Rattle.sql_eval.specs.AggregateGroups.{distinct, joined_part, joined_parts, of_group, group_keys, joined_rows, column_size, AreSummable}
use Rattle.sql_eval.specs.SumLemmas.{total_within, present_within}
use Rattle.sql_eval.proofs.PartsOfRows.{size_is, group_size}
use Rattle.vschema.specs.declared.schema.Query.{Query}
use Rattle.vschema.specs.declared.schema.Table.{Table}
use Rattle.vschema.specs.declared.schema.VSchema.{VSchema}
use Rattle.vschema.specs.Checks.{is_aggregated}
use Rattle.vschema.specs.Database.{rows_of}
use Rattle.vschema.specs.Storable.{is_storable}
use Rattle.vschema.specs.Sources.{with_pairs, source_rows, source_tables, JoinsInPlace}
use Rattle.sql_eval.specs.Conditions.{is_kept}
use Rattle.sql_eval.specs.Groups.{CanBeSummed}
use Rattle.sql_eval.specs.declared.groups.Grouping.{Grouping}
use Rattle.sql_eval.specs.Grouping.{aggregates_of}
use Rattle.sql_eval.specs.inner.Parts.{part_row}
use Rattle.sql_eval.proofs.GroupLemmas.{filter_short}
use Rattle.sql_eval.proofs.Sums.{storable_summed, filter_summed, sizes_small, small_at, all_small}
use Rattle.planner.specs.declared.plans.Plan.{Plan}
use Rattle.planner.specs.Routes.{takes, table_at}
use Rattle.planner.specs.Plans.{planned, ShardRows, Pieces, routed, CanJoin}
use Rattle.planner.specs.Right.{LiesInPlace}
use Rattle.planner.proofs.Aggregated.{groups_plan, planned_rows, planned_groups}
use Rattle.planner.proofs.GroupRights.{first, wide_parts, no_join}
use Rattle.sql_eval.proofs.Rejoined.{AreWide, some_keys, key_lengths, one}

size_sum : (vs : List Value) → size (sum_of vs) ≤ sizes vs
size_sum [] = omega arith
size_sum (v ∷ vs) = total_within (v ∷ vs)

size_least : (vs : List Value) → size (least_of vs) ≤ sizes vs
size_least [] = omega arith
size_least (v ∷ []) = omega (arith, sum_by-cons size v [])
size_least (v ∷ w ∷ vs) = by (is_lt (value_cmp (least_of (w ∷ vs)) v)) (size_least (w ∷ vs))
  where
    by : (b : Bool) → size (least_of (w ∷ vs)) ≤ sizes (w ∷ vs) → size (cond b (least_of (w ∷ vs)) v) ≤ sizes (v ∷ w ∷ vs)
    by true h = omega (arith, h, sum_by-cons size v (w ∷ vs))
    by false h = omega (arith, sum_by-cons size v (w ∷ vs))

size_greatest : (vs : List Value) → size (greatest_of vs) ≤ sizes vs
size_greatest [] = omega arith
size_greatest (v ∷ []) = omega (arith, sum_by-cons size v [])
size_greatest (v ∷ w ∷ vs) = by (is_lt (value_cmp v (greatest_of (w ∷ vs)))) (size_greatest (w ∷ vs))
  where
    by : (b : Bool) → size (greatest_of (w ∷ vs)) ≤ sizes (w ∷ vs) → size (cond b (greatest_of (w ∷ vs)) v) ≤ sizes (v ∷ w ∷ vs)
    by true h = omega (arith, h, sum_by-cons size v (w ∷ vs))
    by false h = omega (arith, sum_by-cons size v (w ∷ vs))

-- a joined part is at most as large as the parts are together
part_within : (a : Item ℕ) (vs : List Value) → size (joined_part a vs) ≤ sizes vs
part_within (Column c) vs = omega arith
part_within CountRows vs = omega (arith, total_within (present vs), present_within vs)
part_within (Count c) vs = omega (arith, total_within (present vs), present_within vs)
part_within (Sum c) vs = omega (arith, size_sum (present vs), present_within vs)
part_within (Min c) vs = omega (arith, size_least (present vs), present_within vs)
part_within (Max c) vs = omega (arith, size_greatest (present vs), present_within vs)

-- the numbers of 2^20 values that columns hold are at most so large together
abbrev IsBelow : Value → Type 0
IsBelow v = size v ≤ 2 ^ 84

parts_below : (aggregates : List (Item ℕ)) (n : ℕ) (rows : List Row) → ((m : ℕ) → column_size m rows ≤ 2 ^ 84) → AllByRecursion IsBelow (joined_parts aggregates n rows)
parts_below [] n rows h = tt
parts_below (a ∷ aggregates) n rows h =
    (omega (arith, part_within a (map (λ r. value_at r n) rows), size_is n rows, h n), parts_below aggregates (n + 1) rows h)

below_at : (row : Row) (n : ℕ) → AllByRecursion IsBelow row → IsBelow (value_at row n)
below_at [] zero all = omega arith
below_at [] (suc n) all = omega arith
below_at (v ∷ row) zero all = all.0
below_at (v ∷ row) (suc n) all = below_at row n all.1

after_below : (xs ys : Row) (n : ℕ) → length xs ≤ n → AllByRecursion IsBelow ys → IsBelow (value_at (xs ++ ys) n)
after_below [] ys n h all = below_at ys n all
after_below (x ∷ xs) ys zero h all = absurd (omega (arith, h))
after_below (x ∷ xs) ys (suc n) h all = after_below xs ys n (omega (arith, h)) all

distinct_short : (keys : List Row) → length (distinct keys) ≤ length keys
distinct_short [] = omega arith
distinct_short (k ∷ keys) = omega (arith, distinct_short keys, filter_short (λ other. not (same_row k other)) (distinct keys))

few_keys : (w : ℕ) (rows : List Row) → length (group_keys w rows) ≤ length rows + 1
few_keys zero rows = omega arith
few_keys (suc w) rows = omega (arith, ap length (some_keys w rows), distinct_short (map (take (suc w)) rows), length-map rows (take (suc w)))

module _ (aggregates : List (Item ℕ)) (w : ℕ) (rows : List Row) (small : (m : ℕ) → column_size m rows ≤ 2 ^ 84) (n : ℕ) (trailing : w ≤ n) where
  one_below : (key : Row) → length key ≡ w → IsBelow (value_at (one aggregates w rows key) n)
  one_below key long =
      after_below key (joined_parts aggregates w (of_group w key rows)) n (omega (arith, long, trailing))
      (parts_below aggregates w (of_group w key rows) (λ m. omega (arith, group_size w m key rows, small m)))

  keys_below : (keys : List Row) → AllByRecursion (λ k. length k ≡ w) keys → column_size n (map (one aggregates w rows) keys) ≤ length keys * 2 ^ 84
  keys_below [] all = omega arith
  keys_below (k ∷ keys) all =
      let here = one_below k all.0 in
      let rest = keys_below keys all.1 in
      omega (arith, here, rest, sum_by-cons (λ r. size (value_at r n)) (one aggregates w rows k) (map (one aggregates w rows) keys))

  groups_below : AreWide w rows → length rows ≤ 2 ^ 20 → column_size n (joined_rows aggregates w rows) ≤ 2 ^ 105
  groups_below wide few = omega (arith, keys_below (group_keys w rows) (key_lengths w rows wide), few_keys w rows, few)

module _ (schema : VSchema) (q : Query) (joins : JoinsInPlace schema q) (aggregated : is_aggregated q ≡ true) where
  abbrev t : Table
  t = table_at schema q.table

  abbrev p : Plan
  p = groups_plan t q

  -- a shard has at most 2^20 rows
  abbrev IsSmallShard : ShardRows → Type 0
  IsSmallShard shard = length (rows_of shard.1 q.table) ≤ 2 ^ 20

  list_below : (shard : ShardRows) → LiesInPlace schema t.keyspace (source_tables q) shard → IsSmallShard shard → (list : List Row)
      → IsPermutation (joined_rows (aggregates_of q.items) (length q.group_by) (map (part_row q.group_by (aggregates_of q.items)) (filter (is_kept q.filter) (source_rows q shard.1)))) list
      → (n : ℕ) → length q.group_by ≤ n → column_size n list ≤ 2 ^ 105
  list_below shard placed few list permuted n trailing =
      let rows = source_rows q shard.1 in
      let plain : rows_of shard.1 q.table ≡ rows = sym (ap (λ join. with_pairs join (rows_of shard.1 q.table) shard.1) (no_join schema q joins aggregated)) in
      let fits : AllByRecursion (λ row. is_storable t row ≡ true) rows = subst (AllByRecursion (λ row. is_storable t row ≡ true)) plain placed.storable.0 in
      let few' : length rows ≤ 2 ^ 20 = subst (λ l. length l ≤ 2 ^ 20) plain few in
      let kept = filter (is_kept q.filter) rows in
      let parts = map (part_row q.group_by (aggregates_of q.items)) kept in
      let summed = filter_summed (is_kept q.filter) rows (storable_summed t rows fits (omega (arith, few'))) in
      let short : length kept ≤ 2 ^ 20 = omega (arith, filter_short (is_kept q.filter) rows, few') in
      let small : (m : ℕ) → column_size m parts ≤ 2 ^ 84 = λ m. omega (arith, sizes_small q.group_by (aggregates_of q.items) kept m summed.1, short) in
      let below = groups_below (aggregates_of q.items) (length q.group_by) parts small n trailing (wide_parts schema q joins aggregated kept) (omega (arith, length-map kept (part_row q.group_by (aggregates_of q.items)), short)) in
      omega (arith, below, sum_by-IsPermutation (λ r. size (value_at r n)) (joined_rows (aggregates_of q.items) (length q.group_by) parts) list permuted)

  lists_below : (shards : List ShardRows) → AllByRecursion (LiesInPlace schema t.keyspace (source_tables q)) shards → AllByRecursion IsSmallShard shards → (lists : List (List Row))
      → Pieces t p (routed t p shards) lists → (n : ℕ) → length q.group_by ≤ n → column_size n (flat_map (λ l. l) lists) ≤ length shards * 2 ^ 105
  lists_below [] placed few [] pieces n trailing = omega arith
  lists_below [] placed few (list ∷ lists) pieces n trailing = absurd pieces
  lists_below (s ∷ shards) placed few lists pieces n trailing = by (takes t p.route s.0) lists pieces (λ ls ps. lists_below shards placed.1 few.1 ls ps n trailing)
    where
      by : (b : Bool) → (lists : List (List Row)) → Pieces t p (cond b (s ∷ routed t p shards) (routed t p shards)) lists
          → ((lists : List (List Row)) → Pieces t p (routed t p shards) lists → column_size n (flat_map (λ l. l) lists) ≤ length shards * 2 ^ 105)
          → column_size n (flat_map (λ l. l) lists) ≤ length (s ∷ shards) * 2 ^ 105
      by true [] pieces rest = absurd pieces
      by true (list ∷ lists) pieces rest =
          let here = list_below s placed.0 few.0 list (first schema q joins aggregated s placed.0 list pieces.0) n trailing in
          let others = rest lists pieces.1 in
          omega (arith, here, others, sum_by-append (λ r. size (value_at r n)) list (flat_map (λ l. l) lists))
      by false lists pieces rest = omega (arith, rest lists pieces)

  groups_fit : (shards : List ShardRows) → AllByRecursion (LiesInPlace schema t.keyspace (source_tables q)) shards → AllByRecursion IsSmallShard shards → length shards ≤ 64
      → (lists : List (List Row)) → Pieces t p (routed t p shards) lists → AreSummable (length q.group_by) (flat_map (λ l. l) lists)
  groups_fit shards placed few most lists pieces = λ n trailing. (let below = lists_below shards placed few lists pieces n trailing in omega (arith, below, most))

abbrev Fits : Table → List ShardRows → List (List Row) → Plan → Type 0
Fits t shards lists p = Pieces t p (routed t p shards) lists → CanJoin p.finish.grouping (flat_map (λ l. l) lists)

-- What the shards of a plan give may be joined, where they are at most 64 and each has at most 2^20 rows.
pub pieces_fit : (schema : VSchema) (q : Query) (p : Plan) → p ≡ planned (table_at schema q.table) q → JoinsInPlace schema q → (shards : List ShardRows)
    → AllByRecursion (LiesInPlace schema (table_at schema q.table).keyspace (source_tables q)) shards → AllByRecursion (λ shard. length (rows_of shard.1 q.table) ≤ 2 ^ 20) shards
    → length shards ≤ 64 → (lists : List (List Row)) → Pieces (table_at schema q.table) p (routed (table_at schema q.table) p shards) lists
    → CanJoin p.finish.grouping (flat_map (λ l. l) lists)
pieces_fit schema q p is joins shards placed few most lists = by (is_aggregated q) refl
  where
    by : (b : Bool) → is_aggregated q ≡ b → Fits (table_at schema q.table) shards lists p
    by true e = subst (Fits (table_at schema q.table) shards lists) (sym (is ∙ planned_groups (table_at schema q.table) q e)) (groups_fit schema q joins e shards placed few most lists)
    by false e = subst (Fits (table_at schema q.table) shards lists) (sym (is ∙ planned_rows (table_at schema q.table) q e)) (λ pieces. tt)

stored_sizes : (rows : List Row) (n : ℕ) → AllByRecursion (AllByRecursion IsColumnValue) rows → column_size n rows ≤ length rows * 2 ^ 64
stored_sizes [] n all = omega arith
stored_sizes (row ∷ rows) n all =
    omega (arith, small_at row n (all_small row all.0), stored_sizes rows n all.1, sum_by-cons (λ r. size (value_at r n)) row rows)

-- rows of values that columns may hold may be joined
pub summed_join : (g : Option Grouping) (rows : List Row) → CanBeSummed rows → CanJoin g rows
summed_join None rows h = tt
summed_join (Some g) rows h = λ n le. (let few = h.0 in omega (arith, few, stored_sizes rows n h.1))
