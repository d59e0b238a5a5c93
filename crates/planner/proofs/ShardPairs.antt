-- The rows that a query is over on all shards are those on each of them.
use Rattle.std.proofs.Common.{◌≡◌, ℕ, true, false, List, [], ◌∷◌, flat_map, IsPermutation, Option, Some, None, refl, sym, ap, subst, ◌∙◌}
use Rattle.std.specs.List.{AllByRecursion}
use Rattle.std.proofs.lemmas.List.Sorted.{IsPermutation-refl, IsPermutation-trans, IsPermutation-append_right}
use Rattle.vt_value.specs.Values.{Row}
use Rattle.keyrange.specs.Ranges.{has_id}
use Rattle.vschema.specs.declared.schema.Join.{Join}
use Rattle.vschema.specs.declared.schema.Query.{Query}
use Rattle.vschema.specs.declared.schema.Table.{Table}
use Rattle.vschema.specs.declared.schema.VSchema.{VSchema}
use Rattle.vschema.specs.Schema.{row_id}
use Rattle.vschema.specs.Storable.{is_storable}
use Rattle.vschema.specs.Database.{rows_of}
use Rattle.vschema.specs.Sources.{is_pair, pairs_of, with_pairs, source_rows, join_tables, source_tables, JoinsInPlace}
use Rattle.sql_eval.proofs.Pairs.{all_join, NoPairs, apart_rows, no_pairs-append, pairs_apart}
use Rattle.planner.specs.Routes.{table_at}
use Rattle.planner.specs.Plans.{ShardRows}
use Rattle.planner.specs.Right.{rows_of_shards, LiesInPlace, IsApart, AreApart, JoinsApart}
use Rattle.planner.proofs.KeptRows.{rows-all}
use Rattle.planner.proofs.Placed.{IsStored, rows_stored, one_id}

-- the rows of two tables lie on their shards
pub record BothStored (t u : Table) (n m : ℕ) (shard : ShardRows) : Type 0 where
  pub firsts : AllByRecursion (IsStored t shard) (rows_of shard.1 n)
  pub seconds : AllByRecursion (IsStored u shard) (rows_of shard.1 m)

module _ (t u : Table) (n m : ℕ) (j : Join) (same : (a b : Row) → is_pair j a b ≡ true → row_id t a ≡ row_id u b) where
  abbrev firsts : ShardRows → List Row
  firsts s = rows_of s.1 n

  abbrev seconds : ShardRows → List Row
  seconds s = rows_of s.1 m

  lying_in : (v : Table) (s : ShardRows) (rows : List Row) → AllByRecursion (IsStored v s) rows → AllByRecursion (λ row. has_id s.0 (row_id v row) ≡ true) rows
  lying_in v s [] all = tt
  lying_in v s (row ∷ rows) all = (all.0.lies, lying_in v s rows all.1)

  none_with : (xs : List Row) → NoPairs j xs []
  none_with [] = tt
  none_with (x ∷ xs) = (tt, none_with xs)

  across : (s : ShardRows) (shards : List ShardRows) → AllByRecursion (IsStored t s) (firsts s) → AllByRecursion (BothStored t u n m) shards
      → AllByRecursion (λ (o : ShardRows). IsApart s.0 o.0) shards → NoPairs j (firsts s) (flat_map seconds shards)
  across s [] here there apart = none_with (firsts s)
  across s (o ∷ shards) here there apart =
      no_pairs-append j (firsts s) (seconds o) (flat_map seconds shards)
      (apart_rows j (row_id t) (row_id u) same (has_id s.0) (has_id o.0) apart.0 (firsts s) (seconds o) (lying_in t s (firsts s) here) (lying_in u o (seconds o) there.0.seconds))
      (across s shards here there.1 apart.1)

  back : (s : ShardRows) (shards : List ShardRows) → AllByRecursion (IsStored u s) (seconds s) → AllByRecursion (BothStored t u n m) shards
      → AllByRecursion (λ (o : ShardRows). IsApart s.0 o.0) shards → NoPairs j (flat_map firsts shards) (seconds s)
  back s [] here there apart = tt
  back s (o ∷ shards) here there apart =
      all_join (λ a. AllByRecursion (λ b. is_pair j a b ≡ false) (seconds s)) (firsts o) (flat_map firsts shards)
      (apart_rows j (row_id t) (row_id u) same (has_id o.0) (has_id s.0) (λ i p q. apart.0 i q p) (firsts o) (seconds s) (lying_in t o (firsts o) there.0.firsts)
      (lying_in u s (seconds s) here))
      (back s shards here there.1 apart.1)

  -- the pairs of all rows are those of each shard's
  pub pairs_of_shards : (shards : List ShardRows) → AllByRecursion (BothStored t u n m) shards → AreApart shards
      → IsPermutation (pairs_of j (flat_map firsts shards) (flat_map seconds shards)) (flat_map (λ s. pairs_of j (firsts s) (seconds s)) shards)
  pairs_of_shards [] placed apart = IsPermutation-refl []
  pairs_of_shards (s ∷ shards) placed apart =
      IsPermutation-trans _ _ _
      (pairs_apart j (firsts s) (flat_map firsts shards) (seconds s) (flat_map seconds shards) (across s shards placed.0.firsts placed.1 apart.0)
      (back s shards placed.0.seconds placed.1 apart.0))
      (IsPermutation-append_right (pairs_of j (firsts s) (seconds s)) (pairs_of j (flat_map firsts shards) (flat_map seconds shards))
      (flat_map (λ s. pairs_of j (firsts s) (seconds s)) shards) (pairs_of_shards shards placed.1 apart.1))

-- What a query is over on all shards, whose ranges are apart where it joins two tables, is what it is over on each of them.
pub sources_all : (schema : VSchema) (q : Query) → JoinsInPlace schema q → (shards : List ShardRows)
    → AllByRecursion (LiesInPlace schema (table_at schema q.table).keyspace (source_tables q)) shards → JoinsApart q shards
    → IsPermutation (source_rows q (rows_of_shards shards)) (flat_map (λ s. source_rows q s.1) shards)
sources_all schema q joins shards placed apart = by q.join refl (join_storable shards placed)
  where
    join_storable : (shards : List ShardRows) → AllByRecursion (LiesInPlace schema (table_at schema q.table).keyspace (source_tables q)) shards
        → AllByRecursion (λ (shard : ShardRows). AllByRecursion (λ n. AllByRecursion (λ row. is_storable (table_at schema n) row ≡ true) (rows_of shard.1 n)) (join_tables q.join)) shards
    join_storable [] all = tt
    join_storable (s ∷ shards) all = (all.0.storable.1, join_storable shards all.1)

    both : (j : Join) (shards : List ShardRows) → AllByRecursion (LiesInPlace schema (table_at schema q.table).keyspace (source_tables q)) shards
        → AllByRecursion (λ (shard : ShardRows). AllByRecursion (λ n. AllByRecursion (λ row. is_storable (table_at schema n) row ≡ true) (rows_of shard.1 n)) (j.table ∷ [])) shards
        → AllByRecursion (BothStored (table_at schema q.table) (table_at schema j.table) q.table j.table) shards
    both j [] all fits = tt
    both j (s ∷ shards) all fits = (
      record {
        firsts = rows_stored schema (table_at schema q.table).keyspace q.table s all.0.placed all.0.storable.0;
        seconds = rows_stored schema (table_at schema q.table).keyspace j.table s all.0.placed fits.0.0;
      },
      both j shards all.1 fits.1,
    )

    by : (join : Option Join) → q.join ≡ join
        → AllByRecursion (λ (shard : ShardRows). AllByRecursion (λ n. AllByRecursion (λ row. is_storable (table_at schema n) row ≡ true) (rows_of shard.1 n)) (join_tables join)) shards
        → IsPermutation (with_pairs join (rows_of (rows_of_shards shards) q.table) (rows_of_shards shards)) (flat_map (λ (s : ShardRows). with_pairs join (rows_of s.1 q.table) s.1) shards)
    by None e fits =
        subst (λ l. IsPermutation l (flat_map (λ (s : ShardRows). rows_of s.1 q.table) shards)) (sym (rows-all shards q.table)) (IsPermutation-refl (flat_map (λ (s : ShardRows). rows_of s.1 q.table) shards))
    by (Some j) e fits =
        let is = joins j e in
        let t = table_at schema q.table in
        let u = table_at schema j.table in
        subst (λ l. IsPermutation l (flat_map (λ (s : ShardRows). pairs_of j (rows_of s.1 q.table) (rows_of s.1 j.table)) shards))
        (sym (λ i. pairs_of j (rows-all shards q.table i) (rows-all shards j.table i)))
        (pairs_of_shards t u q.table j.table j (one_id t u j is.second is.first is.ordinal is.ids) shards (both j shards placed fits) (apart j e))

-- of one table they are the same list
pub sources_plain : (q : Query) → q.join ≡ None → (shards : List ShardRows) → source_rows q (rows_of_shards shards) ≡ flat_map (λ s. source_rows q s.1) shards
sources_plain q e shards =
    ap (λ join. with_pairs join (rows_of (rows_of_shards shards) q.table) (rows_of_shards shards)) e ∙ rows-all shards q.table
    ∙ sym (ap (λ join. flat_map (λ (s : ShardRows). with_pairs join (rows_of s.1 q.table) s.1) shards) e)
