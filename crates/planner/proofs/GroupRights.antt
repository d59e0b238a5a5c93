-- A plan of an aggregated query is right: the groups of the pieces, joined, are those of all rows.
use Rattle.std.proofs.Common.{◌≡◌, ℕ, Bool, true, false, cond, List, [], ◌∷◌, ◌++◌, length, map, filter, flat_map, IsPermutation, Option, Some, None, refl, sym, ap, subst, ◌∙◌, arith, ◌==◌, length-append}
use Rattle.std.specs.Prelude.{◌||◌}
use Rattle.std.specs.List.{AllByRecursion, list_any}
use Rattle.std.proofs.lemmas.Bool.{eq-eqb}
use Rattle.std.proofs.lemmas.List.{map-append, length-map}
use Rattle.std.proofs.lemmas.List.Elements.{filter-append}
use Rattle.std.proofs.lemmas.List.Sorted.{IsPermutation-refl, IsPermutation-trans, IsPermutation-append, IsPermutation-map}
use Rattle.vt_value.specs.Values.{Row, value_at}
use Rattle.sql_tree.specs.declared.Item.{Item}
use Rattle.sql_tree.specs.declared.Item.TheVariants as item
use Rattle.operators.specs.Slices.{columns_of}
use Rattle.sql_eval.specs.AggregateGroups.{joined_rows}
use Rattle.vschema.specs.declared.schema.Query.{Query}
use Rattle.vschema.specs.declared.schema.Table.{Table}
use Rattle.vschema.specs.declared.schema.VSchema.{VSchema}
use Rattle.vschema.specs.Checks.{is_aggregate, is_aggregated, has_number}
use Rattle.vschema.specs.declared.schema.Join.{Join}
use Rattle.vschema.specs.Sources.{source_rows, source_tables, JoinsInPlace}
use Rattle.sql_eval.specs.Conditions.{is_kept}
use Rattle.sql_eval.specs.Groups.{group_values, group_rows, group_value, item_value}
use Rattle.sql_eval.specs.Grouping.{aggregates_of}
use Rattle.sql_eval.specs.inner.Parts.{part_row}
use Rattle.sql_eval.specs.Queries.{Keyed, keyed_group, keyed_groups, kept_rows, Allowed}
use Rattle.sql_eval.proofs.AnswerLemmas.{kept_grouped, group_answer}
use Rattle.sql_eval.proofs.GroupLemmas.{map_both, shares, IsKey, all_keys, group_row, grouped_is}
use Rattle.planner.specs.declared.plans.Plan.{Plan}
use Rattle.planner.specs.Routes.{takes, keys_of, route_of, table_at}
use Rattle.planner.specs.Plans.{pushed_groups, piece_of, ShardRows, Pieces, routed}
use Rattle.planner.specs.Right.{rows_of_shards, LiesInPlace, IsRightPlan}
use Rattle.planner.proofs.Aggregated.{groups_plan, same_aggregated}
use Rattle.planner.proofs.KeptRows.{piece_kept, same_filter, no_filter, all_rows_are}
use Rattle.planner.proofs.Placed.{IsHome, sources_home}
use Rattle.planner.proofs.ShardPairs.{sources_plain}
use Rattle.sql_eval.proofs.Rejoined.{AreWide, rows_permuted, rejoined}
use Rattle.planner.proofs.Skips.{skipped}

or_more : (a b : Bool) → b ≡ true → (a || b) ≡ true
or_more true b e = refl
or_more false b e = e

more_numbers : (g : ℕ) (columns cs : List ℕ) → AllByRecursion (λ c. has_number columns c ≡ true) cs → AllByRecursion (λ c. has_number (g ∷ columns) c ≡ true) cs
more_numbers g columns [] all = tt
more_numbers g columns (c ∷ cs) all = (or_more (g == c) (has_number columns c) all.0, more_numbers g columns cs all.1)

own_numbers : (columns : List ℕ) → AllByRecursion (λ c. has_number columns c ≡ true) columns
own_numbers [] = tt
own_numbers (g ∷ columns) = (ap (λ b. b || has_number columns g) (eq-eqb g g refl), more_numbers g columns columns (own_numbers columns))

shown_columns : (columns : List ℕ) (row : Row) (cs : List ℕ) → AllByRecursion (λ c. has_number columns c ≡ true) cs
    → map (group_value columns (columns_of columns row)) cs ≡ map (value_at row) cs
shown_columns columns row [] all = refl
shown_columns columns row (c ∷ cs) all = λ i. shares columns row c all.0 i ∷ shown_columns columns row cs all.1 i

-- the columns of GROUP BY show a group's values
own_values : (columns : List ℕ) (values : Row) → IsKey columns values → map (group_value columns values) columns ≡ values
own_values columns values key =
    ap (λ v. map (group_value columns v) columns) key.is ∙ shown_columns columns key.row columns (own_numbers columns) ∙ sym key.is

no_columns : (columns : List ℕ) (aggregates : List (Item ℕ)) → list_any is_aggregate (map item.Column columns ++ aggregates) ≡ list_any is_aggregate aggregates
no_columns [] aggregates = refl
no_columns (c ∷ columns) aggregates = no_columns columns aggregates

some_aggregate : (items : List (Item ℕ)) → list_any is_aggregate (aggregates_of items) ≡ list_any is_aggregate items
some_aggregate [] = refl
some_aggregate (i ∷ items) = by (is_aggregate i) refl (some_aggregate items)
  where
    by : (b : Bool) → is_aggregate i ≡ b → list_any is_aggregate (aggregates_of items) ≡ list_any is_aggregate items
        → list_any is_aggregate (cond b (i ∷ aggregates_of items) (aggregates_of items)) ≡ (b || list_any is_aggregate items)
    by true e rest = ap (λ b. b || list_any is_aggregate (aggregates_of items)) e
    by false e rest = rest

-- an aggregated query is over one table
pub no_join : (schema : VSchema) (q : Query) → JoinsInPlace schema q → is_aggregated q ≡ true → q.join ≡ None
no_join schema q joins aggregated = by q.join refl
  where
    by : (join : Option Join) → q.join ≡ join → join ≡ None
    by None e = refl
    by (Some j) e = let wrong : true ≡ false = sym aggregated ∙ (joins j e).plain in cc

module _ (schema : VSchema) (q : Query) (joins : JoinsInPlace schema q) (aggregated : is_aggregated q ≡ true) where
  abbrev t : Table
  t = table_at schema q.table

  abbrev p : Plan
  p = groups_plan t q

  abbrev rows_on : ShardRows → List Row
  rows_on s = source_rows q s.1

  abbrev kept_of : List Row → List Row
  kept_of rows = filter (is_kept q.filter) rows

  abbrev part : Row → Row
  part row = part_row q.group_by (aggregates_of q.items) row

  abbrev joined : List Row → List Row
  joined rows = joined_rows (aggregates_of q.items) (length q.group_by) rows

  aggregated_piece : (shard : ShardRows) → is_aggregated (piece_of t p shard.0) ≡ true
  aggregated_piece shard =
      same_aggregated (piece_of t p shard.0) q (no_columns q.group_by (aggregates_of q.items) ∙ some_aggregate q.items) refl ∙ aggregated

  -- what the piece shows of a group
  shown_one : (rows : List Row) (values : Row) → IsKey q.group_by values
      → map (item_value q.group_by values (group_rows q.group_by values rows)) (map item.Column q.group_by ++ aggregates_of q.items) ≡ group_row q.group_by q.items rows values
  shown_one rows values key =
      let f = item_value q.group_by values (group_rows q.group_by values rows) in
      map-append f (map item.Column q.group_by) (aggregates_of q.items)
      ∙ ap (λ l. l ++ map f (aggregates_of q.items)) (map_both f item.Column (group_value q.group_by values) (λ c. refl) q.group_by ∙ own_values q.group_by values key)

  shown_each : (rows keys : List Row) → AllByRecursion (IsKey q.group_by) keys
      → map (λ (r : Keyed). r.0) (map (keyed_group (pushed_groups q) rows) keys) ≡ map (group_row q.group_by q.items rows) keys
  shown_each rows [] all = refl
  shown_each rows (k ∷ keys) all = λ i. shown_one rows k all.0 i ∷ shown_each rows keys all.1 i

  shown_groups : (rows : List Row) → map (λ (r : Keyed). r.0) (keyed_groups (pushed_groups q) rows) ≡ joined (map part rows)
  shown_groups rows = shown_each rows (group_values q.group_by rows) (all_keys q.group_by rows) ∙ sym (grouped_is q.group_by q.items rows)

  -- a shard's list has the groups of what the query keeps there
  pub first : (shard : ShardRows) → LiesInPlace schema t.keyspace (source_tables q) shard → (list : List Row) → Allowed (piece_of t p shard.0) shard.1 list
      → IsPermutation (joined (map part (kept_of (rows_on shard)))) list
  first shard placed list (arranged, permuted, ascending, is) =
      let pq = piece_of t p shard.0 in
      let kept : filter (is_kept pq.filter) (rows_on shard) ≡ kept_of (rows_on shard) =
      same_filter (is_kept pq.filter) (is_kept q.filter) (rows_on shard)
      (all_rows_are (IsHome t (keys_of t q.join) shard) (λ row. is_kept pq.filter row ≡ is_kept q.filter row)
      (λ row home. piece_kept t q.join shard row home (route_of t q.join q.filter) q.filter) (rows_on shard) (sources_home schema q joins shard placed))
      in
      let all : kept_rows pq (rows_on shard) ≡ keyed_groups (pushed_groups q) (kept_of (rows_on shard)) =
      kept_grouped pq (rows_on shard) (aggregated_piece shard) ∙ ap (keyed_groups (pushed_groups q)) kept
      in
      let shown = IsPermutation-map (λ (r : Keyed). r.0) (kept_rows pq (rows_on shard)) arranged permuted in
      subst (λ l. IsPermutation l list) (ap (map (λ (r : Keyed). r.0)) all ∙ shown_groups (kept_of (rows_on shard)))
      (subst (IsPermutation (map (λ (r : Keyed). r.0) (kept_rows pq (rows_on shard)))) (sym is) shown)

  -- the lists of the shards that the route has
  record Lists (shards : List ShardRows) (lists : List (List Row)) : Type 0 where
    kept : List (List Row)
    all : flat_map (λ rows. rows) kept ≡ kept_of (flat_map rows_on shards)
    groups : IsPermutation (flat_map (λ rows. joined (map part rows)) kept) (flat_map (λ l. l) lists)

  skip_one : (s : ShardRows) (shards : List ShardRows) (lists : List (List Row)) → AllByRecursion (λ row. is_kept q.filter row ≡ false) (rows_on s)
      → Lists shards lists → Lists (s ∷ shards) lists
  skip_one s shards lists none rest = record {
    kept = rest.kept;
    all =
        rest.all ∙ sym (filter-append (is_kept q.filter) (rows_on s) (flat_map rows_on shards)
        ∙ ap (λ l. l ++ kept_of (flat_map rows_on shards)) (no_filter (is_kept q.filter) (rows_on s) none));
    groups = rest.groups;
  }

  add_one : (s : ShardRows) (shards : List ShardRows) (list : List Row) (lists : List (List Row)) → IsPermutation (joined (map part (kept_of (rows_on s)))) list
      → Lists shards lists → Lists (s ∷ shards) (list ∷ lists)
  add_one s shards list lists f rest = record {
    kept = kept_of (rows_on s) ∷ rest.kept;
    all =
        ap (λ l. kept_of (rows_on s) ++ l) rest.all ∙ sym (filter-append (is_kept q.filter) (rows_on s) (flat_map rows_on shards));
    groups =
        IsPermutation-append (joined (map part (kept_of (rows_on s)))) list (flat_map (λ rows. joined (map part rows)) rest.kept) (flat_map (λ l. l) lists) f rest.groups;
  }

  lists_of : (shards : List ShardRows) → AllByRecursion (LiesInPlace schema t.keyspace (source_tables q)) shards → (lists : List (List Row))
      → Pieces t p (routed t p shards) lists → Lists shards lists
  lists_of [] placed [] pieces = record { kept = []; all = refl; groups = IsPermutation-refl [] }
  lists_of [] placed (list ∷ lists) pieces = absurd pieces
  lists_of (s ∷ shards) placed lists pieces = by (takes t p.route s.0) refl lists pieces (lists_of shards placed.1)
    where
      by : (b : Bool) → takes t p.route s.0 ≡ b → (lists : List (List Row)) → Pieces t p (cond b (s ∷ routed t p shards) (routed t p shards)) lists
          → ((lists : List (List Row)) → Pieces t p (routed t p shards) lists → Lists shards lists) → Lists (s ∷ shards) lists
      by true e [] pieces rest = absurd pieces
      by true e (list ∷ lists) pieces rest = add_one s shards list lists (first s placed.0 list pieces.0) (rest lists pieces.1)
      by false e lists pieces rest =
          skip_one s shards lists
          (all_rows_are (IsHome t (keys_of t q.join) s) (λ row. is_kept q.filter row ≡ false) (λ row home. skipped t q.join s q.filter row home e) (rows_on s) (sources_home schema q joins s placed.0))
          (rest lists pieces)

  pub wide_parts : (rows : List Row) → AreWide (length q.group_by) (map part rows)
  wide_parts [] = tt
  wide_parts (row ∷ rows) =
      (omega (arith, length-append (columns_of q.group_by row) (map (Rattle.sql_eval.specs.inner.Parts.row_part row) (aggregates_of q.items)), length-map q.group_by (value_at row)), wide_parts rows)

  all_parts : (kept : List (List Row)) → AllByRecursion (AreWide (length q.group_by)) (map (map part) kept)
  all_parts [] = tt
  all_parts (rows ∷ kept) = (wide_parts rows, all_parts kept)

  parts_together : (kept : List (List Row)) → map part (flat_map (λ rows. rows) kept) ≡ flat_map (λ rows. rows) (map (map part) kept)
  parts_together [] = refl
  parts_together (rows ∷ kept) = map-append part rows (flat_map (λ rows. rows) kept) ∙ ap (λ l. map part rows ++ l) (parts_together kept)

  joined_together : (kept : List (List Row)) → flat_map joined (map (map part) kept) ≡ flat_map (λ rows. joined (map part rows)) kept
  joined_together [] = refl
  joined_together (rows ∷ kept) = ap (λ l. joined (map part rows) ++ l) (joined_together kept)

  pub groups_right : IsRightPlan schema q (groups_plan t q)
  groups_right _ shards placed apart few list (lists, pieces, (arranged, permuted, ascending, is)) =
      let a = lists_of shards placed lists pieces in
      let rows = source_rows q (rows_of_shards shards) in
      let kept : kept_of rows ≡ flat_map (λ r. r) a.kept = ap kept_of (sources_plain q (no_join schema q joins aggregated) shards) ∙ sym a.all in
      let whole : joined (map part (kept_of rows)) ≡ joined (flat_map (λ r. joined (map part r)) a.kept) =
      ap (λ l. joined (map part l)) kept ∙ ap joined (parts_together a.kept)
      ∙ sym (rejoined (aggregates_of q.items) (length q.group_by) (map (map part) a.kept) (all_parts a.kept)) ∙ ap joined (joined_together a.kept)
      in
      let all : IsPermutation (joined (map part (kept_of rows))) arranged =
      subst (λ l. IsPermutation l arranged) (sym whole)
      (IsPermutation-trans _ _ _ (rows_permuted (aggregates_of q.items) (length q.group_by) (flat_map (λ r. joined (map part r)) a.kept) (flat_map (λ l. l) lists) a.groups) permuted)
      in
      group_answer q rows (kept_of rows) list aggregated refl (arranged, all, ascending, is)
