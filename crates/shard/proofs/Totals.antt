-- How many rows a transaction's changes leave.
use Rattle.std.proofs.Common.{◌≡◌, ℕ, ◌+◌, ◌<◌, ◌≤◌, Bool, true, false, cond, ◌&&◌, List, [], ◌∷◌, ◌++◌, length, get_or, map, filter, flat_map, Option, Ok, Err, IsPermutation, refl, sym, ap, ◌∙◌, subst, arith, length-append}
use Rattle.std.specs.Prelude.{count_by, nat_lt, nat_le, ◌^◌}
use Rattle.std.specs.List.{AllByRecursion, sum_by}
use Rattle.std.proofs.lemmas.Bool.{false≢true, and_parts, and_from, ltb-true, leb-true, lt-ltb, le-leb}
use Rattle.std.proofs.lemmas.List.Elements.{All-from_recursion, recursion_from_All}
use Rattle.std.proofs.lemmas.List.Sorted.{All-permutation, sum_by-IsPermutation}
use Rattle.std.proofs.lemmas.List.Sums.{sum_by-cons, sum_by-append}
use Rattle.vt_value.specs.Values.{Row}
use Rattle.vt_value.specs.declared.refusal.Refusal.TheVariants.{DuplicateKey}
use Rattle.sql_tree.specs.declared.Assignment.{Assignment}
use Rattle.sql_tree.specs.declared.Condition.{Condition}
use Rattle.vschema.specs.declared.schema.Table.{Table}
use Rattle.vschema.specs.declared.schema.VSchema.{VSchema}
use Rattle.vschema.specs.declared.changes.Write.{Write}
use Rattle.vschema.specs.declared.changes.Write.TheVariants.{Insert, Update, Delete}
use Rattle.vschema.specs.declared.changes.RowChange.{RowChange}
use Rattle.vschema.specs.declared.changes.RowChange.TheVariants.{Added, Replaced, Removed}
use Rattle.vschema.specs.Schema.{no_table}
use Rattle.vschema.specs.Database.{Database, rows_of, same_row, without, all_applied}
use Rattle.shard_contents.specs.Conditions.{is_kept}
use Rattle.shard_contents.specs.Writes.{has_duplicate, assigned, row_updates, written_table, changes_over}
use Rattle.shard_contents.proofs.ChangeLemmas.{ok_is}
use Rattle.journal.proofs.Counts.{count-append}
use Rattle.shard_contents.proofs.ShardLawCounts.{count, once, same_self, count-none, count-append as row_count-append, count-one, count-without}
use Rattle.shard_contents.proofs.Databases.{length-all_applied}
use Rattle.shard_run.specs.declared.ShardRecord.{ShardRecord}
use Rattle.shard_run.specs.Runs.{Opening, Run, shard_rows, entries_on, stored_on}
use Rattle.shard_contents.specs.Legal.{AreChangesOf}
use Rattle.shard_run.specs.Openings.{row_count}
use Rattle.shard_contents.specs.Limits.{Limits}
use Rattle.shard_contents.specs.Commits.{HasRoom, is_added, is_removed}
use Rattle.shard_contents.specs.inner.Transactions.{has_room_for}
use Rattle.shard_contents.proofs.Changes.{AreOf, of_table}
use Rattle.shard_contents.proofs.Commits.{applied-append}
use Rattle.shard_contents.proofs.Counts.{rows_after, count_after}

-- ---- a row's removals

-- how often a change takes the row away
abbrev pub takes : Row → RowChange → ℕ
takes r (Added n row) = 0
takes r (Replaced n old new) = once r old
takes r (Removed n row) = once r row

-- no row is taken away more often than it stands there
abbrev pub AreTaken : List RowChange → List Row → Type 0
AreTaken changes rows = (r : Row) → sum_by (takes r) changes ≤ count r rows

count-cons : (r x : Row) (rows : List Row) → count r (x ∷ rows) ≡ once r x + count r rows
count-cons r x rows = row_count-append r (x ∷ []) rows ∙ ap (λ n. n + count r rows) (count-one r x)

pub once-itself : (r : Row) → once r r ≡ 1
once-itself r = ap (λ b. cond b 1 0) (same_self r)

-- one row fewer, where it is there
pub without-length : (r : Row) (rows : List Row) → 1 ≤ count r rows → length (without r rows) + 1 ≡ length rows
without-length r [] h = let z = count-none r in absurd (omega (arith, z, h))
without-length r (x ∷ rows) h = by (same_row r x) refl (without-length r rows)
  where
    by : (b : Bool) → same_row r x ≡ b → (1 ≤ count r rows → length (without r rows) + 1 ≡ length rows)
        → length (cond b rows (x ∷ without r rows)) + 1 ≡ length (x ∷ rows)
    by true e rest = omega arith
    by false e rest =
        let o : once r x ≡ 0 = ap (λ b. cond b 1 0) e in
        let c = count-cons r x rows in
        let g = rest (omega (arith, h, o, c)) in
        omega (arith, g)

-- as many rows, after changes that take only rows that are there
abbrev Counts : List RowChange → List Row → Type 0
Counts changes rows = length (rows_after changes rows) + count_by is_removed changes ≡ length rows + count_by is_added changes

pub by-cons : (p : RowChange → Bool) (c : RowChange) (changes : List RowChange) (b : Bool) → p c ≡ b → count_by p (c ∷ changes) ≡ cond b 1 0 + count_by p changes
by-cons p c changes b e =
    let h = count-append p (c ∷ []) changes in
    let k : count_by p (c ∷ []) ≡ 0 + cond b 1 0 = ap (λ b. 0 + cond b 1 0) e in
    omega (arith, h, k)

counts : (changes : List RowChange) (rows : List Row) → AreTaken changes rows → Counts changes rows
counts [] rows taken = refl
counts (Added n row ∷ changes) rows taken =
    let rest = counts changes (rows ++ row ∷ []) (λ r.
    let t = taken r in
    let s = sum_by-cons (takes r) (Added n row) changes in
    let c = row_count-append r rows (row ∷ []) in
    omega (arith, t, s, c)) in
    let a = by-cons is_added (Added n row) changes true refl in
    let d = by-cons is_removed (Added n row) changes false refl in
    let l = length-append rows (row ∷ []) in
    omega (arith, rest, a, d, l)
counts (Replaced n old new ∷ changes) rows taken =
    let here : 1 ≤ count old rows =
    (let t = taken old in let s = sum_by-cons (takes old) (Replaced n old new) changes in let o = once-itself old in omega (arith, t, s, o)) in
    let rest = counts changes (without old rows ++ new ∷ []) (λ r.
    let t = taken r in
    let s = sum_by-cons (takes r) (Replaced n old new) changes in
    let w = count-without r old rows in
    let c = row_count-append r (without old rows) (new ∷ []) in
    omega (arith, t, s, w, c)) in
    let a = by-cons is_added (Replaced n old new) changes false refl in
    let d = by-cons is_removed (Replaced n old new) changes false refl in
    let l = length-append (without old rows) (new ∷ []) in
    let one = without-length old rows here in
    omega (arith, rest, a, d, l, one)
counts (Removed n row ∷ changes) rows taken =
    let here : 1 ≤ count row rows =
    (let t = taken row in let s = sum_by-cons (takes row) (Removed n row) changes in let o = once-itself row in omega (arith, t, s, o)) in
    let rest = counts changes (without row rows) (λ r.
    let t = taken r in
    let s = sum_by-cons (takes r) (Removed n row) changes in
    let w = count-without r row rows in
    omega (arith, t, s, w)) in
    let a = by-cons is_added (Removed n row) changes false refl in
    let d = by-cons is_removed (Removed n row) changes true refl in
    let one = without-length row rows here in
    omega (arith, rest, a, d, one)

-- ---- the changes of a write

inserted_taken : (n : ℕ) (new rows : List Row) → AreTaken (map (Added n) new) rows
inserted_taken n new rows r = let z = none new in omega (arith, z)
  where
    none : (new : List Row) → sum_by (takes r) (map (Added n) new) ≡ 0
    none [] = refl
    none (x ∷ new) = let s = sum_by-cons (takes r) (Added n x) (map (Added n) new) in let h = none new in omega (arith, s, h)

deleted_taken : (n : ℕ) (p : Row → Bool) (rows : List Row) → AreTaken (map (Removed n) (filter p rows)) rows
deleted_taken n p [] r = omega (arith)
deleted_taken n p (x ∷ rows) r = by (p x) (deleted_taken n p rows r)
  where
    by : (b : Bool) → sum_by (takes r) (map (Removed n) (filter p rows)) ≤ count r rows
        → sum_by (takes r) (map (Removed n) (cond b (x ∷ filter p rows) (filter p rows))) ≤ count r (x ∷ rows)
    by true h =
        let s = sum_by-cons (takes r) (Removed n x) (map (Removed n) (filter p rows)) in
        let c = count-cons r x rows in
        omega (arith, h, s, c)
    by false h = let c = count-cons r x rows in omega (arith, h, c)

updated_taken : (n : ℕ) (assignments : List (Assignment ℕ)) (condition : Option (Condition ℕ)) (rows : List Row)
    → AreTaken (flat_map (row_updates n assignments condition) rows) rows
updated_taken n assignments condition [] r = omega arith
updated_taken n assignments condition (x ∷ rows) r =
    let a = sum_by-append (takes r) (row_updates n assignments condition x) (flat_map (row_updates n assignments condition) rows) in
    let b = one (is_kept condition x) (same_row x (assigned assignments x)) in
    let h = updated_taken n assignments condition rows r in
    let c = count-cons r x rows in
    omega (arith, a, b, h, c)
  where
    one : (b c : Bool) → sum_by (takes r) (cond b (cond c [] (Replaced n x (assigned assignments x) ∷ [])) []) ≤ once r x
    one true true = omega arith
    one true false = omega arith
    one false c = omega arith

pub write_taken : (t : Table) (w : Write) (rows : List Row) (changes : List RowChange) → changes_over t w rows ≡ Ok changes → AreTaken changes rows
write_taken t (Insert n new) rows changes e = by (has_duplicate t rows new) e
  where
    by : (b : Bool) → cond b (Err DuplicateKey) (Ok (map (Added n) new)) ≡ Ok changes → AreTaken changes rows
    by true e = absurd (cc e)
    by false e = subst (λ l. AreTaken l rows) (ok_is (map (Added n) new) changes e) (inserted_taken n new rows)
write_taken t (Update n assignments condition) rows changes e =
    subst (λ l. AreTaken l rows) (ok_is (flat_map (row_updates n assignments condition) rows) changes e) (updated_taken n assignments condition rows)
write_taken t (Delete n condition) rows changes e =
    subst (λ l. AreTaken l rows) (ok_is (map (Removed n) (filter (is_kept condition) rows)) changes e) (deleted_taken n (is_kept condition) rows)

-- in any order
pub permuted_taken : (exact changes : List RowChange) (rows : List Row) → IsPermutation exact changes → AreTaken exact rows → AreTaken changes rows
permuted_taken exact changes rows of taken r = let t = taken r in let s = sum_by-IsPermutation (takes r) exact changes of in omega (arith, t, s)

pub permuted_of : (n : ℕ) (exact changes : List RowChange) → IsPermutation exact changes → AreOf n exact → AreOf n changes
permuted_of n exact changes of are =
    let P : RowChange → Type 0 = λ c. Rattle.vschema.specs.Database.changed_table c ≡ n in
    recursion_from_All P changes (All-permutation P exact changes of (All-from_recursion P exact are))

-- all rows, after all writes
pub total : (schema : VSchema) (writes : List Write) (db : Database) (changes : List RowChange) → AreChangesOf schema writes db changes
    → AllByRecursion (λ w. written_table w < length db) writes
    → row_count (all_applied changes db) + count_by is_removed changes ≡ row_count db + count_by is_added changes
total schema [] db changes are there =
    subst (λ l. row_count (all_applied l db) + count_by is_removed l ≡ row_count db + count_by is_added l) (sym are) refl
total schema (w ∷ writes) db changes (first, rest, split, (exact, is, of), are) there =
    let n = written_table w in
    let t : Table = get_or schema.tables n no_table in
    let rows = rows_of db n in
    let own = permuted_of n exact first of (of_table t w rows exact is) in
    let one = counts first rows (permuted_taken exact first rows of (write_taken t w rows exact is)) in
    let all = count_after first db n own there.0 in
    let same = length-all_applied first db in
    let more = total schema writes (all_applied first db) rest are (subst (λ k. AllByRecursion (λ w. written_table w < k) writes) (sym same) there.1) in
    let r = count-append is_removed first rest in
    let a = count-append is_added first rest in
    let e = ap row_count (applied-append first rest db) in
    subst (λ l. row_count (all_applied l db) + count_by is_removed l ≡ row_count db + count_by is_added l) (sym split)
    (omega (arith, one, all, more, r, a, e))

module _ (schema : VSchema) (limits : Limits) (o : Opening) (s : ShardRecord) (run : Run) (writes : List Write) (changes : List RowChange)
    (made : AreChangesOf schema writes (shard_rows o run s) changes) (there : AllByRecursion (λ w. written_table w < length (shard_rows o run s)) writes) where
  abbrev db : Database
  db = shard_rows o run s

  abbrev k : ℕ
  k = length (entries_on s.slot run)

  abbrev m : ℕ
  m = length (stored_on s.slot run)

  -- the test by counts says that there is room
  pub room_for : has_room_for limits k m (row_count db) changes ≡ true → HasRoom o limits s run changes
  room_for h =
      let a = and_parts (nat_lt k (2 ^ 40) && nat_lt m limits.stored)
      (nat_le (row_count db + count_by is_added changes) (limits.rows + count_by is_removed changes)) h in
      let b = and_parts (nat_lt k (2 ^ 40)) (nat_lt m limits.stored) a.0 in
      let l = leb-true (row_count db + count_by is_added changes) (limits.rows + count_by is_removed changes) a.1 in
      let c = total schema writes db changes made there in
      record { rows = omega (arith, l, c); stored = ltb-true m limits.stored b.1; entries = ltb-true k (2 ^ 40) b.0 }

  -- and that there is none
  pub no_room_for : has_room_for limits k m (row_count db) changes ≡ false → HasRoom o limits s run changes → ⊥
  no_room_for h room =
      let c = total schema writes db changes made there in
      let r = room.rows in
      false≢true (sym h ∙ and_from (nat_lt k (2 ^ 40) && nat_lt m limits.stored)
      (nat_le (row_count db + count_by is_added changes) (limits.rows + count_by is_removed changes))
      (and_from (nat_lt k (2 ^ 40)) (nat_lt m limits.stored) (lt-ltb k (2 ^ 40) room.entries) (lt-ltb m limits.stored room.stored))
      (le-leb (row_count db + count_by is_added changes) (limits.rows + count_by is_removed changes) (omega (arith, c, r))))
