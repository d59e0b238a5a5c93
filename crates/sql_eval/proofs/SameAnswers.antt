-- Rows in another order have equal answers, and are as many.
use Rattle.std.proofs.Common.{Bool, true, false, cond, ℕ, List, [], ◌∷◌, length, filter, map, subst, IsPermutation}
use Rattle.std.proofs.lemmas.List.Sorted.{IsPermutation-map, IsPermutation-sym, IsPermutation-trans}
use Rattle.vt_value.specs.Values.{Row}
use Rattle.vschema.specs.declared.schema.Query.{Query}
use Rattle.std.specs.List.{AllByRecursion}
use Rattle.vschema.specs.Checks.{is_aggregated}
use Rattle.vschema.specs.Database.{Database, SameRows, rows_of}
use Rattle.vschema.specs.Sources.{source_rows, source_tables}
use Rattle.sql_eval.specs.Conditions.{is_kept}
use Rattle.sql_eval.specs.Grouping.{aggregates_of}
use Rattle.sql_eval.specs.inner.Parts.{part_row, grouped_rows}
use Rattle.sql_eval.specs.Queries.{keyed_row, keyed_groups, kept_rows, IsAnswer, Allowed}
use Rattle.sql_eval.proofs.ChangeLemmas.{rows-same}
use Rattle.sql_eval.proofs.Pairs.{source_permuted}
use Rattle.sql_eval.proofs.GroupLemmas.{keyed_wide, keyed_is}
use Rattle.sql_eval.proofs.Permutations.{IsPermutation-filter}
use Rattle.sql_eval.proofs.Rejoined.{rows_permuted}

-- rows in another order have the same groups
groups_permuted : (q : Query) (xs ys : List Row) → IsPermutation xs ys → IsPermutation (keyed_groups q xs) (keyed_groups q ys)
groups_permuted q xs ys same =
    let parts = IsPermutation-map (part_row q.group_by (aggregates_of q.items)) xs ys same in
    let groups = rows_permuted (aggregates_of q.items) (length q.group_by) (map (part_row q.group_by (aggregates_of q.items)) xs)
    (map (part_row q.group_by (aggregates_of q.items)) ys) parts in
    subst (λ l. IsPermutation l (keyed_groups q ys)) (keyed_is q xs)
    (subst (IsPermutation (map (keyed_wide q) (grouped_rows q xs))) (keyed_is q ys) (IsPermutation-map (keyed_wide q) (grouped_rows q xs) (grouped_rows q ys) groups))

-- and the same whole answer
kept_permuted : (q : Query) (xs ys : List Row) → IsPermutation xs ys → IsPermutation (kept_rows q xs) (kept_rows q ys)
kept_permuted q xs ys same = by (is_aggregated q)
  where
    kept : IsPermutation (filter (is_kept q.filter) xs) (filter (is_kept q.filter) ys)
    kept = IsPermutation-filter (is_kept q.filter) xs ys same

    by : (b : Bool) → IsPermutation (cond b (keyed_groups q (filter (is_kept q.filter) xs)) (map (keyed_row q) (filter (is_kept q.filter) xs)))
        (cond b (keyed_groups q (filter (is_kept q.filter) ys)) (map (keyed_row q) (filter (is_kept q.filter) ys)))
    by true = groups_permuted q (filter (is_kept q.filter) xs) (filter (is_kept q.filter) ys) kept
    by false = IsPermutation-map (keyed_row q) (filter (is_kept q.filter) xs) (filter (is_kept q.filter) ys) kept

-- an answer doesn't see the order of the rows
pub same_answers : (q : Query) (xs ys list : List Row) → IsPermutation xs ys → IsAnswer q xs list → IsAnswer q ys list
same_answers q xs ys list same (arranged, all, sorted, is) = (
  arranged,
  IsPermutation-trans (kept_rows q ys) (kept_rows q xs) arranged (IsPermutation-sym (kept_rows q xs) (kept_rows q ys) (kept_permuted q xs ys same)) all,
  sorted,
  is,
)

-- nor does one over a database that has the same bags, in the tables that the query is over
pub same_sources : (q : Query) (a b : Database) (list : List Row) → AllByRecursion (λ n. IsPermutation (rows_of a n) (rows_of b n)) (source_tables q)
    → Allowed q a list → Allowed q b list
same_sources q a b list same answer = same_answers q (source_rows q a) (source_rows q b) list (source_permuted q a b same) answer

pub same_allowed : (q : Query) (a b : Database) (list : List Row) → SameRows a b → Allowed q a list → Allowed q b list
same_allowed q a b list same answer = same_sources q a b list (all (source_tables q)) answer
  where
    all : (ns : List ℕ) → AllByRecursion (λ n. IsPermutation (rows_of a n) (rows_of b n)) ns
    all [] = tt
    all (n ∷ ns) = (rows-same a b same n, all ns)
