-- A plan is right: the pieces' rows are first rows of sorted arrangements of the rows that the query keeps on each shard.
use Rattle.std.proofs.Common.{◌≡◌, ℕ, ◌+◌, ◌-◌, ◌^◌, ◌<◌, ◌≤◌, min, Bool, true, false, cond, List, [], ◌∷◌, ◌++◌, length, map, filter, flat_map, take, drop, IsPermutation, Option, Some, None, refl, sym, ap, subst, ◌∙◌, arith}
use Rattle.std.specs.Prelude.{IsSorted, option_map, nat_lt, ◌||◌}
use Rattle.std.specs.Ordering.{is_lt}
use Rattle.std.specs.Cmp.{IsStrictWeakOrder}
use Rattle.std.specs.List.{AllByRecursion, list_any}
use Rattle.std.proofs.lemmas.Bool.{ltb-true, ltb-false}
use Rattle.std.proofs.lemmas.List.{take_all, drop-take, map-append}
use Rattle.std.proofs.lemmas.List.Elements.{filter-append}
use Rattle.std.proofs.lemmas.List.Sums.{length-filter, count_by-le-length}
use Rattle.std.proofs.lemmas.List.Sorted.{ranks_by, length_permutation, IsPermutation-refl, IsPermutation-trans, IsPermutation-append, IsPermutation-map}
use Rattle.vt_value.specs.Values.{Row}
use Rattle.sql_tree.specs.declared.Item.{Item}
use Rattle.sql_tree.specs.declared.Key.{Key}
use Rattle.sql_tree.specs.declared.LimitClause.{LimitClause}
use Rattle.operators.specs.Orders.{keys_cmp, sort_values, row_cmp}
use Rattle.operators.specs.Slices.{sliced, columns_of}
use Rattle.operators.proofs.OrderLemmas.{keys_cmp-total}
use Rattle.vschema.specs.declared.schema.Query.{Query}
use Rattle.vschema.specs.declared.schema.Table.{Table}
use Rattle.vschema.specs.declared.schema.VSchema.{VSchema}
use Rattle.vschema.specs.Resolved.{ordinals_from}
use Rattle.vschema.specs.Sources.{source_rows, source_tables, JoinsInPlace}
use Rattle.vschema.specs.Checks.{is_aggregate, is_aggregated}
use Rattle.sql_eval.specs.Conditions.{is_kept}
use Rattle.sql_eval.proofs.AnswerLemmas.{kept_plain}
use Rattle.sql_eval.specs.Queries.{Keyed, shown, keyed_row, Allowed}
use Rattle.planner.specs.declared.plans.Plan.{Plan}
use Rattle.planner.specs.Routes.{takes, keys_of, route_of, table_at}
use Rattle.planner.specs.Plans.{pushed_limit, key_item, keys_from, piece_of, ShardRows, Pieces, routed}
use Rattle.planner.specs.Right.{rows_of_shards, LiesInPlace, HasFewRows, IsRightPlan}
use Rattle.planner.proofs.KeptRows.{piece_kept, same_filter, no_filter, all_rows_are}
use Rattle.planner.proofs.Placed.{IsHome, sources_home}
use Rattle.planner.proofs.ShardPairs.{sources_all}
use Rattle.sql_eval.proofs.Permutations.{IsPermutation-filter}
use Rattle.planner.proofs.Skips.{skipped}
use Rattle.planner.proofs.Aggregated.{rows_plan, same_aggregated}
use Rattle.planner.proofs.PieceRows.{wide, columns_wide, cmp_wide}
use Rattle.planner.proofs.Mapped.{map_both, sliced-map, arranged_map, sorted_unmapped, sorted_mapped}
use Rattle.planner.proofs.TopRows.{Up, up_from_sorted, sorted_from_up, whole}

pub plain_items : (items : List (Item ℕ)) (keys : List (Key ℕ)) → list_any is_aggregate (items ++ map key_item keys) ≡ list_any is_aggregate items
plain_items [] [] = refl
plain_items [] (k ∷ keys) = plain_items [] keys
plain_items (i ∷ items) keys = ap (λ b. is_aggregate i || b) (plain_items items keys)

module _ (schema : VSchema) (q : Query) (joins : JoinsInPlace schema q) (plain : is_aggregated q ≡ false) where
  abbrev t : Table
  t = table_at schema q.table

  abbrev p : Plan
  p = rows_plan t q

  plain_piece : (shard : ShardRows) → is_aggregated (piece_of t p shard.0) ≡ false
  plain_piece shard = same_aggregated (piece_of t p shard.0) q (plain_items q.items q.order_by) refl ∙ plain

  abbrev lt : Row → Row → Bool
  lt a b = is_lt (row_cmp q.order_by a b)

  o : IsStrictWeakOrder lt
  o = ranks_by (keys_cmp-total q.order_by) (sort_values q.order_by)

  abbrev rows_on : ShardRows → List Row
  rows_on s = source_rows q s.1

  abbrev pushed_rows : List Row → List Row
  pushed_rows rows = sliced (option_map pushed_limit q.limit) rows

  abbrev row_wide : Row → Row
  row_wide row = wide q.items q.order_by row

  -- a shard's list: the first rows of what the query keeps there
  record First (shard : ShardRows) (list : List Row) : Type 0 where
    rows : List Row
    all : IsPermutation (filter (is_kept q.filter) (rows_on shard)) rows
    sorted : Up lt o rows
    few : length rows < 2 ^ 64
    is : list ≡ map row_wide (pushed_rows rows)

  first : (shard : ShardRows) → LiesInPlace schema t.keyspace (source_tables q) shard → length (rows_on shard) < 2 ^ 64 → (list : List Row) → Allowed (piece_of t p shard.0) shard.1 list → First shard list
  first shard placed few list (arranged, permuted, ascending, is) =
      let pq = piece_of t p shard.0 in
      let a = arranged_map (keyed_row pq) (filter (is_kept pq.filter) (rows_on shard)) arranged
      (subst (λ l. IsPermutation l arranged) (kept_plain pq (rows_on shard) (plain_piece shard)) permuted) in
      let kept : filter (is_kept pq.filter) (rows_on shard) ≡ filter (is_kept q.filter) (rows_on shard) =
      same_filter (is_kept pq.filter) (is_kept q.filter) (rows_on shard)
      (all_rows_are (IsHome t (keys_of t q.join) shard) (λ row. is_kept pq.filter row ≡ is_kept q.filter row)
      (λ row home. piece_kept t q.join shard row home (route_of t q.join q.filter) q.filter) (rows_on shard) (sources_home schema q joins shard placed))
      in
      let all : IsPermutation (filter (is_kept q.filter) (rows_on shard)) a.arranged = subst (λ l. IsPermutation l a.arranged) kept a.all in
      let shorter = count_by-le-length (is_kept q.filter) (rows_on shard) in
      let filtered = length-filter (is_kept q.filter) (rows_on shard) in
      let long = length_permutation (filter (is_kept q.filter) (rows_on shard)) a.arranged all in
      record {
        rows = a.arranged;
        all = all;
        sorted =
            up_from_sorted lt o a.arranged
            (sorted_unmapped (keyed_row pq) lt (λ (x : Keyed) (y : Keyed). is_lt (keys_cmp q.order_by x.1 y.1)) (λ x y. refl) a.arranged
            (subst (λ l. IsSorted (λ (x : Keyed) (y : Keyed). keys_cmp q.order_by x.1 y.1) l) a.is ascending));
        few = omega (arith, few, shorter, filtered, long);
        is =
            is ∙ ap (λ l. map (λ (r : Keyed). r.0) (sliced pq.limit l)) a.is
            ∙ ap (map (λ (r : Keyed). r.0)) (sliced-map (keyed_row pq) pq.limit a.arranged)
            ∙ map_both (λ (r : Keyed). r.0) (keyed_row pq) row_wide (λ x. refl) (pushed_rows a.arranged);
      }

  -- the lists of the shards that the route has
  record Lists (shards : List ShardRows) (lists : List (List Row)) : Type 0 where
    rows : List (List Row)
    all : IsPermutation (filter (is_kept q.filter) (flat_map rows_on shards)) (flat_map (λ r. r) rows)
    sorted : AllByRecursion (Up lt o) rows
    few : AllByRecursion (λ r. length r < 2 ^ 64) rows
    is : flat_map (λ l. l) lists ≡ map row_wide (flat_map pushed_rows rows)

  skip_one : (s : ShardRows) (shards : List ShardRows) (lists : List (List Row)) → AllByRecursion (λ row. is_kept q.filter row ≡ false) (rows_on s)
      → Lists shards lists → Lists (s ∷ shards) lists
  skip_one s shards lists none rest = record {
    rows = rest.rows;
    all =
        subst (λ l. IsPermutation l (flat_map (λ r. r) rest.rows))
        (sym (filter-append (is_kept q.filter) (rows_on s) (flat_map rows_on shards)
        ∙ ap (λ l. l ++ filter (is_kept q.filter) (flat_map rows_on shards)) (no_filter (is_kept q.filter) (rows_on s) none))) rest.all;
    sorted = rest.sorted;
    few = rest.few;
    is = rest.is;
  }

  add_one : (s : ShardRows) (shards : List ShardRows) (list : List Row) (lists : List (List Row)) → First s list → Lists shards lists → Lists (s ∷ shards) (list ∷ lists)
  add_one s shards list lists f rest = record {
    rows = f.rows ∷ rest.rows;
    all =
        subst (λ l. IsPermutation l (f.rows ++ flat_map (λ r. r) rest.rows)) (sym (filter-append (is_kept q.filter) (rows_on s) (flat_map rows_on shards)))
        (IsPermutation-append (filter (is_kept q.filter) (rows_on s)) f.rows (filter (is_kept q.filter) (flat_map rows_on shards)) (flat_map (λ r. r) rest.rows) f.all rest.all);
    sorted = (f.sorted, rest.sorted);
    few = (f.few, rest.few);
    is = (λ i. f.is i ++ rest.is i) ∙ sym (map-append row_wide (pushed_rows f.rows) (flat_map pushed_rows rest.rows));
  }

  lists_of : (shards : List ShardRows) → AllByRecursion (LiesInPlace schema t.keyspace (source_tables q)) shards → AllByRecursion (HasFewRows t p q) shards
      → (lists : List (List Row)) → Pieces t p (routed t p shards) lists → Lists shards lists
  lists_of [] placed few [] pieces = record { rows = []; all = IsPermutation-refl []; sorted = tt; few = tt; is = refl }
  lists_of [] placed few (list ∷ lists) pieces = absurd pieces
  lists_of (s ∷ shards) placed few lists pieces = by (takes t p.route s.0) refl lists pieces (lists_of shards placed.1 few.1)
    where
      by : (b : Bool) → takes t p.route s.0 ≡ b → (lists : List (List Row)) → Pieces t p (cond b (s ∷ routed t p shards) (routed t p shards)) lists
          → ((lists : List (List Row)) → Pieces t p (routed t p shards) lists → Lists shards lists) → Lists (s ∷ shards) lists
      by true e [] pieces rest = absurd pieces
      by true e (list ∷ lists) pieces rest = add_one s shards list lists (first s placed.0 (few.0 e) list pieces.0) (rest lists pieces.1)
      by false e lists pieces rest =
          skip_one s shards lists
          (all_rows_are (IsHome t (keys_of t q.join) s) (λ row. is_kept q.filter row ≡ false) (λ row home. skipped t q.join s q.filter row home e) (rows_on s) (sources_home schema q joins s placed.0))
          (rest lists pieces)

  -- an arrangement of all rows, of which the limit leaves what it leaves of the first ones
  record Sliced (limit : Option LimitClause) (rows : List (List Row)) (some : List Row) : Type 0 where
    arranged : List Row
    all : IsPermutation (flat_map (λ r. r) rows) arranged
    sorted : Up lt o arranged
    same : sliced limit arranged ≡ sliced limit some

  all_short : (n : ℕ) (rows : List (List Row)) → 2 ^ 64 ≤ n + 1 → AllByRecursion (λ r. length r < 2 ^ 64) rows → flat_map (take n) rows ≡ flat_map (λ r. r) rows
  all_short n [] h few = refl
  all_short n (r ∷ rows) h few = let short = few.0 in λ i. take_all n r (omega (arith, h, short)) i ++ all_short n rows h few.1 i

  with_limit : (limit : Option LimitClause) (rows : List (List Row)) (some : List Row) → AllByRecursion (Up lt o) rows → AllByRecursion (λ r. length r < 2 ^ 64) rows
      → IsPermutation (flat_map (sliced (option_map pushed_limit limit)) rows) some → Up lt o some → Sliced limit rows some
  with_limit None rows some ups few permuted up = record { arranged = some; all = permuted; sorted = up; same = refl }
  with_limit (Some l) rows some ups few permuted up = by (nat_lt (l.offset + l.count) (2 ^ 64)) refl
    where
      by : (b : Bool) → nat_lt (l.offset + l.count) (2 ^ 64) ≡ b → Sliced (Some l) rows some
      by true e =
          let less = ltb-true (l.offset + l.count) (2 ^ 64) e in
          let n_is : min (l.offset + l.count) (2 ^ 64 - 1) ≡ l.offset + l.count = omega (arith, less) in
          let w = whole lt o (l.offset + l.count) rows some ups (subst (λ k. IsPermutation (flat_map (take k) rows) some) n_is permuted) up in
          record {
            arranged = w.arranged;
            all = w.all;
            sorted = w.sorted;
            same = sym (drop-take l.offset l.count w.arranged) ∙ ap (drop l.offset) w.same ∙ drop-take l.offset l.count some;
          }
      by false e =
          let more = ltb-false (l.offset + l.count) (2 ^ 64) e in
          let n_is : 2 ^ 64 ≤ min (l.offset + l.count) (2 ^ 64 - 1) + 1 = omega (arith, more) in
          record {
            arranged = some;
            all = subst (λ l. IsPermutation l some) (all_short (min (l.offset + l.count) (2 ^ 64 - 1)) rows n_is few) permuted;
            sorted = up;
            same = refl;
          }

  pub rows_right : IsRightPlan schema q (rows_plan t q)
  rows_right _ shards placed apart few list (lists, pieces, (arranged, permuted, ascending, is)) =
      let a = lists_of shards placed few lists pieces in
      let m = arranged_map row_wide (flat_map pushed_rows a.rows) arranged (subst (λ l. IsPermutation l arranged) a.is permuted) in
      let up : Up lt o m.arranged =
      up_from_sorted lt o m.arranged
      (sorted_unmapped row_wide lt (λ (x : Row) (y : Row). is_lt (row_cmp (keys_from (length q.items) q.order_by) x y)) (λ x y. ap is_lt (cmp_wide q.items q.order_by x y)) m.arranged
      (subst (IsSorted (row_cmp (keys_from (length q.items) q.order_by))) m.is ascending))
      in
      let s = with_limit q.limit a.rows m.arranged a.sorted a.few m.all up in
      let all_kept : IsPermutation (filter (is_kept q.filter) (source_rows q (rows_of_shards shards))) (filter (is_kept q.filter) (flat_map rows_on shards)) =
      IsPermutation-filter (is_kept q.filter) (source_rows q (rows_of_shards shards)) (flat_map rows_on shards) (sources_all schema q joins shards placed apart)
      in (
        map (keyed_row q) s.arranged,
        subst (λ l. IsPermutation l (map (keyed_row q) s.arranged)) (sym (kept_plain q (source_rows q (rows_of_shards shards)) plain))
            (IsPermutation-map (keyed_row q) (filter (is_kept q.filter) (source_rows q (rows_of_shards shards))) s.arranged
            (IsPermutation-trans _ _ _ all_kept (IsPermutation-trans _ _ _ a.all s.all))),
        sorted_mapped (keyed_row q) lt (λ (x : Keyed) (y : Keyed). is_lt (keys_cmp q.order_by x.1 y.1)) (λ x y. refl) s.arranged (sorted_from_up lt o s.arranged s.sorted),
        is ∙ ap (λ l. map (columns_of (ordinals_from 0 q.items)) (sliced q.limit l)) m.is
            ∙ ap (map (columns_of (ordinals_from 0 q.items))) (sliced-map row_wide q.limit m.arranged)
            ∙ map_both (columns_of (ordinals_from 0 q.items)) row_wide (shown q) (λ row. columns_wide q.items q.order_by row) (sliced q.limit m.arranged)
            ∙ ap (map (shown q)) (sym s.same)
            ∙ sym (map_both (λ (r : Keyed). r.0) (keyed_row q) (shown q) (λ row. refl) (sliced q.limit s.arranged))
            ∙ ap (map (λ (r : Keyed). r.0)) (sym (sliced-map (keyed_row q) q.limit s.arranged)),
      )
