-- The rows or pairs that a query is over can be counted and summed, where the tables may hold their rows.
use Rattle.std.proofs.Common.{◌≡◌, ℕ, zero, suc, ◌≤◌, ◌^◌, Bool, true, false, cond, List, [], ◌∷◌, length, map, filter, get_or, Option, Some, None, arith}
use Rattle.std.specs.List.{AllByRecursion}
use Rattle.vt_value.specs.declared.value.Value.{Value}
use Rattle.vt_value.specs.declared.value.Value.TheVariants.{Null}
use Rattle.vt_value.specs.Values.{Row}
use Rattle.vschema.specs.declared.schema.Join.{Join}
use Rattle.vschema.specs.declared.schema.Query.{Query}
use Rattle.vschema.specs.declared.schema.Table.{Table}
use Rattle.vschema.specs.declared.schema.VSchema.{VSchema}
use Rattle.vschema.specs.Database.{Database, rows_of}
use Rattle.vschema.specs.Schema.{no_table}
use Rattle.vschema.specs.Sources.{padded_row, paired, is_pair, pairs_of, with_pairs, source_rows}
use Rattle.vschema.specs.Storable.{is_storable}
use Rattle.shard_contents.specs.Groups.{CanBeSummed}
use Rattle.shard_contents.proofs.Pairs.{all_join}
use Rattle.shard_contents.proofs.Sums.{storable_summed}
use Rattle.shard_contents.proofs.Lists.{all-weaker}

-- the row alone can be counted and summed
abbrev FitsSums : Row → Type 0
FitsSums row = CanBeSummed (row ∷ [])

-- so can at most 2^60 such rows
rows_sum : (rows : List Row) → AllByRecursion FitsSums rows → length rows ≤ 2 ^ 60 → CanBeSummed rows
rows_sum [] all few = (few, tt)
rows_sum (row ∷ rows) all few = (few, (all.0.1.0, (rows_sum rows all.1 (omega (arith, few))).1))

padded_all : (P : Value → Type 0) (width : ℕ) (row : Row) → AllByRecursion P row → P Null → AllByRecursion P (padded_row width row)
padded_all P zero row all null = tt
padded_all P (suc width) [] all null = (null, padded_all P width [] tt null)
padded_all P (suc width) (v ∷ row) all null = (all.0, padded_all P width row all.1 null)

pair_sums : (j : Join) (a b : Row) → FitsSums a → FitsSums b → FitsSums (paired j a b)
pair_sums j a b first second = (omega arith, (all_join _ (padded_row j.width a) b (padded_all _ j.width a first.1.0 tt) second.1.0, tt))

-- the pairs of rows, first those of one row
partners_sum : (j : Join) (a : Row) (ys : List Row) → FitsSums a → AllByRecursion FitsSums ys → AllByRecursion FitsSums (map (paired j a) (filter (is_pair j a) ys))
partners_sum j a [] first seconds = tt
partners_sum j a (b ∷ ys) first seconds = by (is_pair j a b) (partners_sum j a ys first seconds.1)
  where
    by : (t : Bool) → AllByRecursion FitsSums (map (paired j a) (filter (is_pair j a) ys))
        → AllByRecursion FitsSums (map (paired j a) (cond t (b ∷ filter (is_pair j a) ys) (filter (is_pair j a) ys)))
    by true rest = (pair_sums j a b first seconds.0, rest)
    by false rest = rest

pairs_sum : (j : Join) (xs ys : List Row) → AllByRecursion FitsSums xs → AllByRecursion FitsSums ys → AllByRecursion FitsSums (pairs_of j xs ys)
pairs_sum j [] ys firsts seconds = tt
pairs_sum j (a ∷ xs) ys firsts seconds =
    all_join FitsSums (map (paired j a) (filter (is_pair j a) ys)) (pairs_of j xs ys) (partners_sum j a ys firsts.0 seconds) (pairs_sum j xs ys firsts.1 seconds)

stored_sum : (t : Table) (row : Row) → is_storable t row ≡ true → FitsSums row
stored_sum t row stored = storable_summed t (row ∷ []) (stored, tt) (omega arith)

-- at most 2^60 rows or pairs of a database whose tables may hold its rows
pub sources_summed : (schema : VSchema) (q : Query) (db : Database)
    → ((n : ℕ) → AllByRecursion (λ row. is_storable (get_or schema.tables n no_table) row ≡ true) (rows_of db n)) → length (source_rows q db) ≤ 2 ^ 60
    → CanBeSummed (source_rows q db)
sources_summed schema q db stored few = rows_sum (source_rows q db) (by q.join) few
  where
    fits : (n : ℕ) → AllByRecursion FitsSums (rows_of db n)
    fits n =
        all-weaker (λ row. is_storable (get_or schema.tables n no_table) row ≡ true) FitsSums
        (stored_sum (get_or schema.tables n no_table)) (rows_of db n) (stored n)

    by : (join : Option Join) → AllByRecursion FitsSums (with_pairs join (rows_of db q.table) db)
    by None = fits q.table
    by (Some j) = pairs_sum j (rows_of db q.table) (rows_of db j.table) (fits q.table) (fits j.table)
