-- The pieces of a plan give their rows in the order of the finish's keys.
use Rattle.std.proofs.Common.{◌≡◌, ℕ, zero, suc, Bool, true, false, List, [], ◌∷◌, length, map, filter, take, drop, IsPermutation, Option, Some, None, refl, sym, ap, subst, ◌∙◌}
use Rattle.std.specs.Prelude.{IsSorted}
use Rattle.std.specs.Ordering.{is_lt}
use Rattle.std.specs.Cmp.{IsStrictWeakOrder}
use Rattle.std.specs.List.{AllByRecursion}
use Rattle.std.specs.List.Sorted.{IsSortedBy}
use Rattle.std.proofs.lemmas.List.Sorted.{ranks_by}
use Rattle.vt_value.specs.Values.{Row}
use Rattle.sql_tree.specs.declared.LimitClause.{LimitClause}
use Rattle.operators.specs.Orders.{keys_cmp, sort_values, row_cmp}
use Rattle.operators.specs.Slices.{sliced}
use Rattle.operators.proofs.OrderLemmas.{keys_cmp-total}
use Rattle.vschema.specs.declared.schema.Query.{Query}
use Rattle.vschema.specs.declared.schema.Table.{Table}
use Rattle.vschema.specs.Sources.{source_rows}
use Rattle.vschema.specs.Checks.{is_aggregated}
use Rattle.sql_eval.specs.Conditions.{is_kept}
use Rattle.sql_eval.proofs.AnswerLemmas.{kept_plain}
use Rattle.sql_eval.specs.Queries.{Keyed, keyed_row, Allowed}
use Rattle.planner.specs.declared.plans.Plan.{Plan}
use Rattle.planner.specs.Plans.{planned, keys_from, piece_of, ShardRows}
use Rattle.planner.specs.Right.{GivesInOrder}
use Rattle.planner.proofs.Aggregated.{rows_plan, planned_rows, planned_groups, same_aggregated}
use Rattle.planner.proofs.PieceRows.{wide, cmp_wide}
use Rattle.planner.proofs.Mapped.{map_both, sliced-map, arranged_map, sorted_unmapped, sorted_mapped}
use Rattle.planner.proofs.RowRights.{plain_items}
use Rattle.planner.proofs.TopRows.{Up, up_from_sorted, sorted_from_up}

all_first : {X : Type 0} (P : X → Type 0) (n : ℕ) (xs : List X) → AllByRecursion P xs → AllByRecursion P (take n xs)
all_first P zero xs all = tt
all_first P (suc n) [] all = tt
all_first P (suc n) (x ∷ xs) all = (all.0, all_first P n xs all.1)

module _ {X : Type 0} (lt : X → X → Bool) (o : IsStrictWeakOrder lt) where
  up_first : (n : ℕ) (xs : List X) → Up lt o xs → Up lt o (take n xs)
  up_first zero xs up = tt
  up_first (suc n) [] up = tt
  up_first (suc n) (x ∷ xs) up = (all_first (λ y. lt y x ≡ false) n xs up.0, up_first n xs up.1)

  up_after : (n : ℕ) (xs : List X) → Up lt o xs → Up lt o (drop n xs)
  up_after zero xs up = up
  up_after (suc n) [] up = tt
  up_after (suc n) (x ∷ xs) up = up_after n xs up.1

  -- a slice of a sorted list is sorted
  sorted_slice : (limit : Option LimitClause) (xs : List X) → IsSortedBy lt xs → IsSortedBy lt (sliced limit xs)
  sorted_slice None xs sorted = sorted
  sorted_slice (Some l) xs sorted =
      sorted_from_up lt o (take l.count (drop l.offset xs)) (up_first l.count (drop l.offset xs) (up_after l.offset xs (up_from_sorted lt o xs sorted)))

module _ (t : Table) (q : Query) (plain : is_aggregated q ≡ false) where
  abbrev lt : Row → Row → Bool
  lt a b = is_lt (row_cmp q.order_by a b)

  o : IsStrictWeakOrder lt
  o = ranks_by (keys_cmp-total q.order_by) (sort_values q.order_by)

  abbrev row_wide : Row → Row
  row_wide row = wide q.items q.order_by row

  piece_in_order : (shard : ShardRows) (list : List Row) → Allowed (piece_of t (rows_plan t q) shard.0) shard.1 list → IsSorted (row_cmp (keys_from (length q.items) q.order_by)) list
  piece_in_order shard list (arranged, permuted, ascending, is) =
      let pq = piece_of t (rows_plan t q) shard.0 in
      let rows = source_rows q shard.1 in
      let plain_piece : is_aggregated pq ≡ false = same_aggregated pq q (plain_items q.items q.order_by) refl ∙ plain in
      let a = arranged_map (keyed_row pq) (filter (is_kept pq.filter) rows) arranged (subst (λ l. IsPermutation l arranged) (kept_plain pq rows plain_piece) permuted) in
      let sorted =
      sorted_unmapped (keyed_row pq) lt (λ (x : Keyed) (y : Keyed). is_lt (keys_cmp q.order_by x.1 y.1)) (λ x y. refl) a.arranged
      (subst (λ l. IsSorted (λ (x : Keyed) (y : Keyed). keys_cmp q.order_by x.1 y.1) l) a.is ascending)
      in
      let shown : list ≡ map row_wide (sliced pq.limit a.arranged) =
      is ∙ ap (λ l. map (λ (r : Keyed). r.0) (sliced pq.limit l)) a.is
      ∙ ap (map (λ (r : Keyed). r.0)) (sliced-map (keyed_row pq) pq.limit a.arranged)
      ∙ map_both (λ (r : Keyed). r.0) (keyed_row pq) row_wide (λ x. refl) (sliced pq.limit a.arranged)
      in
      subst (IsSorted (row_cmp (keys_from (length q.items) q.order_by))) (sym shown)
      (sorted_mapped row_wide lt (λ (x : Row) (y : Row). is_lt (row_cmp (keys_from (length q.items) q.order_by) x y)) (λ x y. ap is_lt (cmp_wide q.items q.order_by x y))
      (sliced pq.limit a.arranged) (sorted_slice lt o pq.limit a.arranged sorted))

pub in_order : (t : Table) (q : Query) (p : Plan) → p ≡ planned t q → GivesInOrder t p
in_order t q p e = subst (GivesInOrder t) (sym e) (by (is_aggregated q) refl)
  where
    by : (b : Bool) → is_aggregated q ≡ b → GivesInOrder t (planned t q)
    by true aggregated = subst (GivesInOrder t) (sym (planned_groups t q aggregated)) (λ none. cc)
    by false plain = subst (GivesInOrder t) (sym (planned_rows t q plain)) (λ none shard list given. piece_in_order t q plain shard list given)
