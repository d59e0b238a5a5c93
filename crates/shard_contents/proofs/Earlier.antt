-- Tables as they were when a shard had stored so many entries: through its changes, and brought forward by them.
use Rattle.std.proofs.Common.{◌≡◌, ℕ, zero, suc, ◌+◌, ◌-◌, ◌<◌, ◌≤◌, Bool, true, List, [], ◌∷◌, ◌++◌, length, take, drop, get_or, filter, refl, sym, ap, ◌∙◌, subst, arith, IsPermutation, length-append}
use Rattle.std.specs.List.{AllByRecursion, remove}
use Rattle.std.proofs.lemmas.Bool.{eq-eqb, ne_eqb}
use Rattle.std.proofs.lemmas.Grind.{flat_map-append}
use Rattle.std.proofs.lemmas.List.{append-nil, take_more, drop-append-le, drop_all}
use Rattle.std.proofs.lemmas.List.Sorted.{IsPermutation-trans, IsPermutation-append_left}
use Rattle.shard_store.proofs.ChangeLemmas.{rows-same}
use Rattle.shard_store.proofs.Permutations.{IsPermutation-filter}
use Rattle.vt_value.specs.Values.{Row}
use Rattle.vschema.specs.declared.schema.Table.{Table}
use Rattle.vschema.specs.declared.changes.RowChange.{RowChange}
use Rattle.vschema.specs.declared.changes.RowChange.TheVariants.{Added, Replaced, Removed}
use Rattle.vschema.specs.Database.{Database, SameRows, rows_of, without, all_applied, changed_table}
use Rattle.shard_law.proofs.Databases.{length-all_applied}
use Rattle.shard_contents.specs.inner.Placed.{AreFirst}
use Rattle.shard_contents.specs.inner.Stores.{row_after}
use Rattle.shard_contents.specs.inner.StoredLogs.{StoredLog, count_of, stored_since, HasStoredNext}
use Rattle.shard_contents.specs.inner.Earlier.{EarlierTable, changes_by, HadRows, AllHadRows, IsCurrentTable}
use Rattle.shard_contents.proofs.Bags.{same_self, same_back, same_through, length-same, all_applied-same}
use Rattle.shard_contents.proofs.Commits.{applied-append}
use Rattle.shard_contents.proofs.StoredLogs.{first_next, kept_next}
use Rattle.shard_contents.proofs.OneTable.{next_here, next_other}

take-all : {X : Type 0} (xs : List X) (i : ℕ) → length xs ≤ i → take i xs ≡ xs
take-all [] zero l = refl
take-all [] (suc i) l = refl
take-all (x ∷ xs) zero l = absurd (omega (arith, l))
take-all (x ∷ xs) (suc i) l = ap (λ ys. x ∷ ys) (take-all xs i (omega (arith, l)))

-- ---- changes of a table, whose rows are in any order

without-same : (r : Row) (xs ys : List Row) → IsPermutation xs ys → IsPermutation (without r xs) (without r ys)
without-same r xs ys h = (all_applied-same (Removed 0 r ∷ []) (xs ∷ []) (ys ∷ []) (h, tt)).0

pub row_after-same : (c : RowChange) (xs ys : List Row) → IsPermutation xs ys → IsPermutation (row_after c xs) (row_after c ys)
row_after-same (Added n row) xs ys h = IsPermutation-append_left (row ∷ []) xs ys h
row_after-same (Replaced n old new) xs ys h = IsPermutation-append_left (new ∷ []) (without old xs) (without old ys) (without-same old xs ys h)
row_after-same (Removed n row) xs ys h = without-same row xs ys h

-- a row in another's place
pub replaced : (n : ℕ) (old new : Row) (before less after : List Row) → IsPermutation less (without old before) → IsPermutation after (less ++ new ∷ [])
    → IsPermutation after (row_after (Replaced n old new) before)
replaced n old new before less after h k =
    IsPermutation-trans after (less ++ new ∷ []) (without old before ++ new ∷ []) k (IsPermutation-append_left (new ∷ []) less (without old before) h)

-- one more change, of the table or of another
module _ (changes : List RowChange) (i : ℕ) (c : RowChange) (n : ℕ) (within : i < length changes) (is : c ≡ get_or changes i c) where
  pub more_here : (db : Database) (rows later : List Row) → n < length db → changed_table c ≡ n → IsPermutation later (row_after c rows)
      → IsPermutation rows (rows_of (all_applied (take i changes) db) n) → IsPermutation later (rows_of (all_applied (take (i + 1) changes) db) n)
  more_here db rows later there of after h =
      subst (IsPermutation later) (sym (next_here changes i c db n there within is (eq-eqb (changed_table c) n of)))
      (IsPermutation-trans later (row_after c rows) (row_after c (rows_of (all_applied (take i changes) db) n)) after
      (row_after-same c rows (rows_of (all_applied (take i changes) db) n) h))

  pub more_other : (db : Database) (rows : List Row) → n < length db → (changed_table c ≡ n → ⊥)
      → IsPermutation rows (rows_of (all_applied (take i changes) db) n) → IsPermutation rows (rows_of (all_applied (take (i + 1) changes) db) n)
  more_other db rows there of h =
      subst (IsPermutation rows) (sym (next_other changes i c db n there within is (ne_eqb (changed_table c) n of))) h

-- all of them
pub changes_done : (changes : List RowChange) (i : ℕ) (db : Database) (n : ℕ) (rows : List Row) → length changes ≤ i
    → IsPermutation rows (rows_of (all_applied (take i changes) db) n) → IsPermutation rows (rows_of (all_applied changes db) n)
changes_done changes i db n rows far h =
    subst (λ (l : List RowChange). IsPermutation rows (rows_of (all_applied l db) n)) (take-all changes i far) h

pub entries_done : (entries : List (List RowChange)) (i : ℕ) (db : Database) (n : ℕ) (rows : List Row) → length entries ≤ i
    → IsPermutation rows (rows_of (all_applied (changes_by (take i entries)) db) n) → IsPermutation rows (rows_of (all_applied (changes_by entries) db) n)
entries_done entries i db n rows far h =
    subst (λ (l : List (List RowChange)). IsPermutation rows (rows_of (all_applied (changes_by l) db) n)) (take-all entries i far) h

-- one more entry
pub entry_next : (entries : List (List RowChange)) (i : ℕ) (e : List RowChange) (db : Database) → i < length entries → e ≡ get_or entries i e
    → all_applied (changes_by (take (i + 1) entries)) db ≡ all_applied e (all_applied (changes_by (take i entries)) db)
entry_next entries i e db within is =
    ap (λ (l : List (List RowChange)). all_applied (changes_by l) db) (take_more entries i e within ∙ ap (λ (x : List RowChange). take i entries ++ x ∷ []) (sym is))
    ∙ ap (λ (l : List RowChange). all_applied l db)
    (flat_map-append (λ (x : List RowChange). x) (take i entries) (e ∷ [])
    ∙ ap (λ (l : List RowChange). changes_by (take i entries) ++ l) (append-nil e))
    ∙ applied-append (changes_by (take i entries)) e db

-- ---- kept tables, while entries are stored

had_next : (log next : StoredLog) (e : List RowChange) (now later : Database) (t : EarlierTable) → SameRows later (all_applied e now)
    → HasStoredNext log e next → HadRows log now t → HadRows next later t
had_next log next e now later t after one h =
    let since : List RowChange = changes_by (stored_since log t.stored) in
    let first = first_next log next e one h.is_followed in
    let kept = kept_next log next e one h.is_followed in
    let there = h.there in
    let within = h.within in
    let low : t.stored - log.first ≤ length log.kept = omega (arith, there, within) in
    let front : stored_since next t.stored ≡ stored_since log t.stored ++ e ∷ [] =
    ap (λ (n : ℕ). drop (t.stored - n) next.kept) first ∙ ap (drop (t.stored - log.first)) kept ∙ drop-append-le (t.stored - log.first) log.kept (e ∷ []) low in
    let all : all_applied (changes_by (stored_since next t.stored)) h.db ≡ all_applied e (all_applied since h.db) =
    ap (λ (l : List (List RowChange)). all_applied (changes_by l) h.db) front
    ∙ ap (λ (l : List RowChange). all_applied l h.db)
    (flat_map-append (λ (x : List RowChange). x) (stored_since log t.stored) (e ∷ []) ∙ ap (λ (l : List RowChange). since ++ l) (append-nil e))
    ∙ applied-append since e h.db in
    record {
      is_followed = one.is_followed ∙ h.is_followed;
      there = omega (arith, first, there);
      within = let k = ap length kept in let l = length-append log.kept (e ∷ []) in omega (arith, first, within, k, l);
      db = h.db;
      since =
          subst (λ (db : Database). SameRows db later) (sym all)
          (same_through (all_applied e (all_applied since h.db)) (all_applied e now) later
          (all_applied-same e (all_applied since h.db) now h.since)
          (same_back later (all_applied e now) after));
      rows = h.rows;
    }

-- one more stored entry, with what it changes
pub all_had_next : (log next : StoredLog) (e : List RowChange) (now later : Database) (tables : List EarlierTable)
    → SameRows later (all_applied e now) → HasStoredNext log e next → AllHadRows log now tables → AllHadRows next later tables
all_had_next log next e now later [] after one h = tt
all_had_next log next e now later (t ∷ tables) after one h = (had_next log next e now later t after one h.0, all_had_next log next e now later tables after one h.1)

-- nothing stored, and no row changed
pub all_had_same : (log next : StoredLog) (now later : Database) (tables : List EarlierTable) → next ≡ log → later ≡ now → AllHadRows log now tables
    → AllHadRows next later tables
all_had_same log next now later tables logs rows h =
    subst (λ (l : StoredLog). AllHadRows l later tables) (sym logs) (subst (λ (db : Database). AllHadRows log db tables) (sym rows) h)

-- entries are kept from now on
had_followed : (log : StoredLog) (now : Database) (tables : List EarlierTable) → AllHadRows log now tables → AllHadRows (record log { is_followed = true }) now tables
had_followed log now [] h = tt
had_followed log now (t ∷ tables) h = (
  record { is_followed = refl; there = h.0.there; within = h.0.within; db = h.0.db; since = h.0.since; rows = h.0.rows },
  had_followed log now tables h.1,
)

pub all_had_followed : (log next : StoredLog) (now : Database) (tables : List EarlierTable) → next ≡ record log { is_followed = true } → AllHadRows log now tables
    → AllHadRows next now tables
all_had_followed log next now tables is h = subst (λ (l : StoredLog). AllHadRows l now tables) (sym is) (had_followed log now tables h)

-- ---- a table that is taken out, brought forward and put back

pub all-remove : {X : Type 0} (P : X → Type 0) (xs : List X) (i : ℕ) → AllByRecursion P xs → AllByRecursion P (remove xs i)
all-remove P [] zero h = tt
all-remove P [] (suc i) h = tt
all-remove P (x ∷ xs) zero h = h.1
all-remove P (x ∷ xs) (suc i) h = (h.0, all-remove P xs i h.1)

pub all-at : {X : Type 0} (P : X → Type 0) (xs : List X) (i : ℕ) (d : X) → i < length xs → AllByRecursion P xs → P (get_or xs i d)
all-at P [] i d l h = absurd (omega (arith, l))
all-at P (x ∷ xs) zero d l h = h.0
all-at P (x ∷ xs) (suc i) d l h = all-at P xs i d (omega (arith, l)) h.1

pub all-push : {X : Type 0} (P : X → Type 0) (xs : List X) (x : X) → AllByRecursion P xs → P x → AllByRecursion P (xs ++ x ∷ [])
all-push P [] x h p = (p, tt)
all-push P (y ∷ xs) x h p = (h.0, all-push P xs x h.1 p)

pub had_now : (log : StoredLog) (now : Database) (n : ℕ) (t : EarlierTable) → log.is_followed ≡ true → IsCurrentTable n (count_of log) now t → HadRows log now t
had_now log now n t follows h =
    let k = h.stored in
    let none : stored_since log t.stored ≡ [] = drop_all (t.stored - log.first) log.kept (omega (arith, k)) in
    record {
      is_followed = follows;
      there = omega (arith, k);
      within = omega (arith, k);
      db = now;
      since = subst (λ (l : List (List RowChange)). SameRows (all_applied (changes_by l) now) now) (sym none) (same_self now);
      rows = subst (λ (m : ℕ). IsPermutation t.rows (rows_of now m)) (sym h.table) h.rows;
    }

pub has_now : (log : StoredLog) (now : Database) (n : ℕ) (old t : EarlierTable) → n < length now → old.table ≡ n → HadRows log now old
    → t.table ≡ old.table → t.stored ≡ count_of log
    → ((db : Database) → old.table < length db → IsPermutation old.rows (rows_of db old.table)
    → IsPermutation t.rows (rows_of (all_applied (changes_by (stored_since log old.stored)) db) old.table))
    → IsCurrentTable n (count_of log) now t
has_now log now n old t there of h table entries forward =
    let changes : List RowChange = changes_by (stored_since log old.stored) in
    let same = length-same (all_applied changes h.db) now h.since in
    let long = length-all_applied changes h.db in
    record {
      table = table ∙ of;
      stored = entries;
      rows =
          subst (λ (k : ℕ). IsPermutation t.rows (rows_of now k)) of
          (IsPermutation-trans t.rows (rows_of (all_applied changes h.db) old.table) (rows_of now old.table)
          (forward h.db (omega (arith, there, of, same, long)) h.rows)
          (rows-same (all_applied changes h.db) now h.since old.table));
    }

-- the first of rows in any order
pub first_permuted : (t : Table) (test : Row → Bool) (rows all first : List Row) → IsPermutation all rows → AreFirst t test rows first → AreFirst t test all first
first_permuted t test rows all first h f = record {
  arranged = f.arranged;
  all = IsPermutation-trans (filter test all) (filter test rows) f.arranged (IsPermutation-filter test all rows h) f.all;
  in_order = f.in_order;
  is = f.is;
}

-- no table is kept
pub all_had_none : (log : StoredLog) (now : Database) (tables : List EarlierTable) → tables ≡ [] → AllHadRows log now tables
all_had_none log now tables none = subst (AllHadRows log now) (sym none) tt
