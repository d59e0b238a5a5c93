-- The rows that a query keeps of the one database are those of the seats that it needs by a partition.
use Rattle.std.proofs.Common.{◌≡◌, ℕ, ◌<◌, Bool, true, false, cond, List, [], ◌∷◌, ◌++◌, length, filter, map, flat_map, IsPermutation, Option, Some, None, refl, sym, ap, subst, ◌∙◌}
use Rattle.std.specs.List.{AllByRecursion}
use Rattle.std.proofs.lemmas.List.{append-nil}
use Rattle.std.proofs.lemmas.List.Elements.{filter-append}
use Rattle.std.proofs.lemmas.List.Sorted.{IsPermutation-sym, IsPermutation-trans}
use Rattle.vt_value.specs.Values.{Row}
use Rattle.vschema.specs.declared.schema.Join.{Join}
use Rattle.vschema.specs.declared.schema.Place.{Place}
use Rattle.vschema.specs.declared.schema.Query.{Query}
use Rattle.vschema.specs.declared.schema.Table.{Table}
use Rattle.vschema.specs.Checks.{is_aggregated}
use Rattle.vschema.specs.Database.{Database, rows_of, restrict}
use Rattle.vschema.specs.Sources.{with_pairs, pairs_of, source_rows, join_tables, source_tables, SourcesThere, JoinsInPlace}
use Rattle.shard_contents.specs.Conditions.{is_kept}
use Rattle.shard_contents.specs.Queries.{Keyed, kept_rows, keyed_row, keyed_groups, IsAnswer}
use Rattle.shard_contents.proofs.Pairs.{source_permuted}
use Rattle.shard_contents.proofs.Permutations.{IsPermutation-filter}
use Rattle.shard_contents.proofs.SameAnswers.{same_answers}
use Rattle.shard_calls.specs.Plans.{ShardRows}
use Rattle.shard_calls.specs.Right.{LiesInPlace, AreApart, rows_of_shards}
use Rattle.shard_calls.specs.Routes.{table_at, route_of, takes}
use Rattle.shard_calls.proofs.Placed.{sources_home}
use Rattle.shard_calls.proofs.ShardPairs.{sources_all}
use Rattle.shard_calls.proofs.Skips.{skipped}
use Rattle.serving.specs.Partitions.{Seat, IsPartition, ranges}
use Rattle.shard_run.specs.Runs.{Run, Opening, database}
use Rattle.shard_run.specs.Openings.{IsOpening}
use Rattle.shard_contents.specs.Legal.{Legal}
use Rattle.shard_contents.proofs.Lists.{all-weaker}
use Rattle.shard_calls.specs.Answers.{needed}
use Rattle.shard_calls.specs.Mix.{MixPart, mixed_rows}
use Rattle.shard_calls.specs.Transactions.{needed_for}
use Rattle.route_engine.proofs.Everywhere.{covers_apart, same_moment}
use Rattle.route_engine.proofs.Moments.{filter-twice, placed_at}

-- what holds of the table that a query is over, and of one that it joins, holds of all its tables
pub of_sources : (P : ℕ → Type 0) (q : Query) → P q.table → ((j : Join) → q.join ≡ Some j → P j.table) → AllByRecursion P (source_tables q)
of_sources P q first second = (first, by q.join refl)
  where
    by : (join : Option Join) → q.join ≡ join → AllByRecursion P (join_tables join)
    by None e = tt
    by (Some j) e = (second j e, tt)

-- databases that have the same rows in these tables give the query the same rows
pub sources_same : (q : Query) (a b : Database) → AllByRecursion (λ n. rows_of a n ≡ rows_of b n) (source_tables q) → source_rows q a ≡ source_rows q b
sources_same q a b same = by q.join same.1
  where
    by : (join : Option Join) → AllByRecursion (λ n. rows_of a n ≡ rows_of b n) (join_tables join)
        → with_pairs join (rows_of a q.table) a ≡ with_pairs join (rows_of b q.table) b
    by None second = same.0
    by (Some j) second = ap (λ rows. pairs_of j rows (rows_of a j.table)) same.0 ∙ ap (pairs_of j (rows_of b q.table)) second.0

-- both tables of a query lie in one keyspace
pub keyspace_of : (o : Opening) (q : Query) → JoinsInPlace o.schema q
    → AllByRecursion (λ n. (table_at o.schema n).keyspace ≡ (table_at o.schema q.table).keyspace) (source_tables q)
keyspace_of o q joins = of_sources (λ n. (table_at o.schema n).keyspace ≡ (table_at o.schema q.table).keyspace) q refl (λ j e. (joins j e).keyspace)

-- an answer sees the rows that the query keeps alone
pub answers_kept : (q : Query) (xs ys list : List Row) → filter (is_kept q.filter) xs ≡ filter (is_kept q.filter) ys → IsAnswer q xs list → IsAnswer q ys list
answers_kept q xs ys list same (arranged, all, sorted, is) =
    (arranged, subst (λ (l : List Keyed). IsPermutation l arranged) kept_same all, sorted, is)
  where
    kept_same : kept_rows q xs ≡ kept_rows q ys
    kept_same = ap (λ (l : List Row). cond (is_aggregated q) (keyed_groups q l) (map (keyed_row q) l)) same

-- in any order
pub answers_kept_of : (q : Query) (xs ys list : List Row) → IsPermutation (filter (is_kept q.filter) xs) (filter (is_kept q.filter) ys) → IsAnswer q xs list
    → IsAnswer q ys list
answers_kept_of q xs ys list same answer =
    answers_kept q (filter (is_kept q.filter) ys) ys list (filter-twice (is_kept q.filter) ys)
    (same_answers q (filter (is_kept q.filter) xs) (filter (is_kept q.filter) ys) list same
    (answers_kept q xs (filter (is_kept q.filter) xs) list (sym (filter-twice (is_kept q.filter) xs)) answer))

-- what one moment leaves of the ranges of a partition has the query's rows of the one database
pub mixed_sources : (o : Opening) (q : Query) → SourcesThere (length o.schema.tables) q → JoinsInPlace o.schema q → (run : Run) (parts : List MixPart)
    → AllByRecursion (λ part. database o part.run ≡ database o run) parts → AllByRecursion Rattle.keyrange.specs.Names.IsNamed (map (λ part. part.range) parts)
    → Rattle.keyrange.specs.Ranges.Cover (map (λ part. part.range) parts)
    → AllByRecursion (λ n. IsPermutation (rows_of (mixed_rows o (table_at o.schema q.table).keyspace parts) n) (rows_of (database o run) n)) (source_tables q)
mixed_sources o q there joins run parts moment named whole = each (source_tables q) there (keyspace_of o q joins)
  where
    each : (ns : List ℕ) → AllByRecursion (λ n. n < length o.schema.tables) ns
        → AllByRecursion (λ n. (table_at o.schema n).keyspace ≡ (table_at o.schema q.table).keyspace) ns
        → AllByRecursion (λ n. IsPermutation (rows_of (mixed_rows o (table_at o.schema q.table).keyspace parts) n) (rows_of (database o run) n)) ns
    each [] there one_keyspace = tt
    each (n ∷ ns) there one_keyspace = (
      subst (λ (k : ℕ). IsPermutation (rows_of (mixed_rows o k parts) n) (rows_of (database o run) n)) one_keyspace.0 (same_moment o n there.0 run parts moment named whole),
      each ns there.1 one_keyspace.1,
    )

module _ (o : Opening) (opens : IsOpening o) (run : Run) (legal : Legal o run) (q : Query) (there : SourcesThere (length o.schema.tables) q)
    (joins : JoinsInPlace o.schema q) (seats : List Seat) (partition : IsPartition seats) where
  abbrev t : Table
  t = table_at o.schema q.table

  abbrev kept : List Row → List Row
  kept rows = filter (is_kept q.filter) rows

  -- the place of a seat, and the rows that lie there
  abbrev pub ordinal_of : Seat → Place
  ordinal_of seat = record { keyspace = t.keyspace; range = seat.1 }

  abbrev pub rows_at : Seat → Database
  rows_at seat = restrict o.schema (ordinal_of seat) (database o run)

  abbrev part_of : Seat → MixPart
  part_of seat = record { range = seat.1; run = run }

  abbrev shard_at : Seat → ShardRows
  shard_at seat = (seat.1, rows_at seat)

  abbrev pub route : Rattle.shard_calls.specs.Route.Route
  route = route_of t q.join q.filter

  ranges_are : (ss : List Seat) → map (λ part. part.range) (map part_of ss) ≡ ranges ss
  ranges_are [] = refl
  ranges_are (seat ∷ ss) = ap (λ l. seat.1 ∷ l) (ranges_are ss)

  shard_ranges : (ss : List Seat) → map (λ (s : ShardRows). s.0) (map shard_at ss) ≡ ranges ss
  shard_ranges [] = refl
  shard_ranges (seat ∷ ss) = ap (λ l. seat.1 ∷ l) (shard_ranges ss)

  mixed_is : (ss : List Seat) → mixed_rows o t.keyspace (map part_of ss) ≡ rows_of_shards (map shard_at ss)
  mixed_is [] = refl
  mixed_is (seat ∷ ss) = ap (Rattle.vschema.specs.Database.union (rows_at seat)) (mixed_is ss)

  moments : (ss : List Seat) → AllByRecursion (λ part. database o part.run ≡ database o run) (map part_of ss)
  moments [] = tt
  moments (seat ∷ ss) = (refl, moments ss)

  placed : (ss : List Seat) → AllByRecursion (LiesInPlace o.schema t.keyspace (source_tables q)) (map shard_at ss)
  placed [] = tt
  placed (seat ∷ ss) = (placed_at o opens t.keyspace (source_tables q) seat.1 run legal, placed ss)

  apart : AreApart (map shard_at seats)
  apart = covers_apart (map shard_at seats) (ranges seats) (shard_ranges seats) partition.named partition.whole

  -- all rows are those of the seats
  all_seats : IsPermutation (source_rows q (database o run)) (flat_map (λ (s : ShardRows). source_rows q s.1) (map shard_at seats))
  all_seats =
      let rows =
      mixed_sources o q there joins run (map part_of seats) (moments seats)
      (subst (AllByRecursion Rattle.keyrange.specs.Names.IsNamed) (sym (ranges_are seats)) partition.named)
      (subst Rattle.keyrange.specs.Ranges.Cover (sym (ranges_are seats)) partition.whole) in
      let same = source_permuted q (mixed_rows o t.keyspace (map part_of seats)) (database o run) rows in
      let over_shards = subst (λ (db : Database). IsPermutation (source_rows q db) (source_rows q (database o run))) (mixed_is seats) same in
      IsPermutation-trans (source_rows q (database o run)) (source_rows q (rows_of_shards (map shard_at seats)))
      (flat_map (λ (s : ShardRows). source_rows q s.1) (map shard_at seats))
      (IsPermutation-sym (source_rows q (rows_of_shards (map shard_at seats))) (source_rows q (database o run)) over_shards)
      (sources_all o.schema q joins (map shard_at seats) (placed seats) (λ j e. apart))

  -- a seat that the query doesn't need has none that it keeps
  none_kept : (rows : List Row) → AllByRecursion (λ row. is_kept q.filter row ≡ false) rows → kept rows ≡ []
  none_kept [] all = refl
  none_kept (row ∷ rows) all = by (is_kept q.filter row) all.0 (none_kept rows all.1)
    where
      by : (b : Bool) → b ≡ false → kept rows ≡ [] → cond b (row ∷ kept rows) (kept rows) ≡ []
      by true e rest = absurd (cc e)
      by false e rest = rest

  skips : (seat : Seat) → takes t route seat.1 ≡ false → kept (source_rows q (rows_at seat)) ≡ []
  skips seat off =
      none_kept (source_rows q (rows_at seat))
      (all-weaker _ (λ row. is_kept q.filter row ≡ false) (λ row home. skipped t q.join (shard_at seat) q.filter row home off) (source_rows q (rows_at seat))
      (sources_home o.schema q joins (shard_at seat) (placed_at o opens t.keyspace (source_tables q) seat.1 run legal)))

  -- those that it keeps are those of the seats that it needs
  kept_seats : (ss : List Seat) → kept (flat_map (λ (s : ShardRows). source_rows q s.1) (map shard_at ss)) ≡ flat_map (λ (seat : Seat). kept (source_rows q (rows_at seat))) (needed t route ss)
  kept_seats [] = refl
  kept_seats (seat ∷ ss) =
      filter-append (is_kept q.filter) (source_rows q (rows_at seat)) (flat_map (λ (s : ShardRows). source_rows q s.1) (map shard_at ss))
      ∙ ap (λ (l : List Row). kept (source_rows q (rows_at seat)) ++ l) (kept_seats ss) ∙ by (takes t route seat.1) refl
    where
      by : (b : Bool) → takes t route seat.1 ≡ b
          → kept (source_rows q (rows_at seat)) ++ flat_map (λ (u : Seat). kept (source_rows q (rows_at u))) (needed t route ss)
          ≡ flat_map (λ (u : Seat). kept (source_rows q (rows_at u))) (cond b (seat ∷ needed t route ss) (needed t route ss))
      by true e = refl
      by false e = ap (λ (l : List Row). l ++ flat_map (λ (u : Seat). kept (source_rows q (rows_at u))) (needed t route ss)) (skips seat e)

  kept_needed : IsPermutation (kept (source_rows q (database o run))) (flat_map (λ (seat : Seat). kept (source_rows q (rows_at seat))) (needed t route seats))
  kept_needed =
      subst (IsPermutation (kept (source_rows q (database o run)))) (kept_seats seats)
      (IsPermutation-filter (is_kept q.filter) (source_rows q (database o run)) (flat_map (λ (s : ShardRows). source_rows q s.1) (map shard_at seats)) all_seats)

  -- of one seat
  pub kept_alone : (seat : Seat) → needed_for o q seats ≡ seat ∷ [] → IsPermutation (kept (source_rows q (rows_at seat))) (kept (source_rows q (database o run)))
  kept_alone seat alone =
      IsPermutation-sym (kept (source_rows q (database o run))) (kept (source_rows q (rows_at seat)))
      (subst (IsPermutation (kept (source_rows q (database o run))))
      (ap (λ (l : List Seat). flat_map (λ (u : Seat). kept (source_rows q (rows_at u))) l) alone ∙ append-nil (kept (source_rows q (rows_at seat)))) kept_needed)

  -- of none
  pub kept_nowhere : needed_for o q seats ≡ [] → IsPermutation (kept []) (kept (source_rows q (database o run)))
  kept_nowhere none =
      IsPermutation-sym (kept (source_rows q (database o run))) []
      (subst (IsPermutation (kept (source_rows q (database o run))))
      (ap (λ (l : List Seat). flat_map (λ (u : Seat). kept (source_rows q (rows_at u))) l) none) kept_needed)
