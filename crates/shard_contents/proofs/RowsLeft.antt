-- Rows that are put in order some at a time, and tables that are brought forward by some entries at a time.
use Rattle.std.proofs.Common.{◌≡◌, ℕ, ◌+◌, ◌-◌, ◌<◌, ◌≤◌, List, [], ◌∷◌, ◌++◌, length, take, drop, sym, ap, ◌∙◌, subst, arith, IsPermutation}
use Rattle.std.proofs.lemmas.List.{append-nil, append_assoc, drop-drop, length-drop, take-append-drop}
use Rattle.std.proofs.Math.Seq.{drop-nil}
use Rattle.std.proofs.lemmas.Grind.{flat_map-append}
use Rattle.std.proofs.lemmas.List.Sorted.{IsPermutation-trans, IsPermutation-append_left}
use Rattle.vt_value.specs.Values.{Row}
use Rattle.vschema.specs.declared.changes.RowChange.{RowChange}
use Rattle.vschema.specs.Database.{Database, SameRows, rows_of, all_applied}
use Rattle.shard_law.proofs.Databases.{length-all_applied}
use Rattle.shard_contents.specs.inner.StoredLogs.{StoredLog, count_of, stored_since}
use Rattle.shard_contents.specs.inner.Earlier.{EarlierTable, changes_by, HadRows, IsCurrentTable}
use Rattle.shard_contents.proofs.Bags.{length-same}
use Rattle.shard_contents.proofs.Commits.{applied-append}

-- none is left beyond the end
pub ended : {X : Type 0} (xs : List X) (m n : ℕ) → drop m xs ≡ [] → m ≤ n → drop n xs ≡ []
ended xs m n at far =
    let same : m + (n - m) ≡ n = omega (arith, far) in
    ap (λ (k : ℕ). drop k xs) (sym same) ∙ sym (drop-drop (n - m) m xs) ∙ ap (drop (n - m)) at ∙ drop-nil (n - m)

-- one row more is taken from the begin
pub taken : {X : Type 0} (all rest : List X) (x : X) (count : ℕ) → drop count all ≡ x ∷ rest → drop (count + 1) all ≡ rest
taken all rest x count at = sym (drop-drop 1 count all) ∙ ap (drop 1) at

-- a row goes from those that are left to those in order
pub moved : (before after rest all : List Row) (row : Row) → IsPermutation after (before ++ row ∷ []) → IsPermutation (before ++ row ∷ rest) all
    → IsPermutation (after ++ rest) all
moved before after rest all row added so_far =
    IsPermutation-trans (after ++ rest) (before ++ row ∷ rest) all
    (subst (IsPermutation (after ++ rest)) (append_assoc before (row ∷ []) rest) (IsPermutation-append_left rest after (before ++ row ∷ []) added)) so_far

-- a table with the same rows, in any order
pub current_as : (n entries : ℕ) (now : Database) (t u : EarlierTable) → u.table ≡ t.table → u.stored ≡ t.stored → IsPermutation u.rows t.rows → IsCurrentTable n entries now t
    → IsCurrentTable n entries now u
current_as n entries now t u table stored rows is = record {
  table = table ∙ is.table;
  stored = stored ∙ is.stored;
  rows = IsPermutation-trans u.rows t.rows (rows_of now n) rows is.rows;
}

pub had_as : (log : StoredLog) (now : Database) (t u : EarlierTable) → u.table ≡ t.table → u.stored ≡ t.stored → IsPermutation u.rows t.rows → HadRows log now t
    → HadRows log now u
had_as log now t u table stored rows is = record {
  is_followed = is.is_followed;
  there = subst (λ (n : ℕ). log.first ≤ n) (sym stored) is.there;
  within = subst (λ (n : ℕ). n ≤ count_of log) (sym stored) is.within;
  db = is.db;
  since = subst (λ (n : ℕ). SameRows (all_applied (changes_by (stored_since log n)) is.db) now) (sym stored) is.since;
  rows =
      IsPermutation-trans u.rows t.rows (rows_of is.db u.table) rows
      (subst (λ (n : ℕ). IsPermutation t.rows (rows_of is.db n)) (sym table) is.rows);
}

-- a table that was brought forward by some of the entries since
module _ (log : StoredLog) (now : Database) (t u : EarlierTable) (count : ℕ) (table : u.table ≡ t.table) (stored : u.stored ≡ t.stored + count)
    (few : count ≤ length (stored_since log t.stored)) (there : t.table < length now) where
  some_since : log.first ≤ t.stored → stored_since log u.stored ≡ drop count (stored_since log t.stored)
  some_since low =
      let far : u.stored - log.first ≡ (t.stored - log.first) + count = omega (arith, stored, low) in
      ap (λ (n : ℕ). drop n log.kept) far ∙ sym (drop-drop count (t.stored - log.first) log.kept)

  pub had_some : ((db : Database) → t.table < length db → IsPermutation t.rows (rows_of db t.table)
      → IsPermutation u.rows (rows_of (all_applied (changes_by (take count (stored_since log t.stored))) db) t.table))
      → HadRows log now t → HadRows log now u
  had_some forward is =
      let since : List (List RowChange) = stored_since log t.stored in
      let first : List RowChange = changes_by (take count since) in
      let rest : List RowChange = changes_by (drop count since) in
      let low = is.there in
      let long = length-drop (t.stored - log.first) log.kept in
      let all : all_applied rest (all_applied first is.db) ≡ all_applied (changes_by since) is.db =
      sym (applied-append first rest is.db)
      ∙ ap (λ (l : List RowChange). all_applied l is.db)
      (sym (flat_map-append (λ (x : List RowChange). x) (take count since) (drop count since)) ∙ ap changes_by (take-append-drop count since)) in
      let same = length-same (all_applied (changes_by since) is.db) now is.since in
      let wide = length-all_applied (changes_by since) is.db in
      record {
        is_followed = is.is_followed;
        there = omega (arith, stored, low);
        within = let w = is.within in omega (arith, stored, few, low, long, w);
        db = all_applied first is.db;
        since =
            subst (λ (l : List (List RowChange)). SameRows (all_applied (changes_by l) (all_applied first is.db)) now) (sym (some_since low))
            (subst (λ (db : Database). SameRows db now) (sym all) is.since);
        rows =
            subst (λ (n : ℕ). IsPermutation u.rows (rows_of (all_applied first is.db) n)) (sym table)
            (forward is.db (omega (arith, there, same, wide)) is.rows);
      }

-- what was asked of a table's rows, asked of them with those that are left
pub forward_as : (before mid after : List Row) (n : ℕ) (changes : List RowChange) → IsPermutation mid before
    → ((db : Database) → n < length db → IsPermutation mid (rows_of db n) → IsPermutation after (rows_of (all_applied changes db) n))
    → (db : Database) → n < length db → IsPermutation before (rows_of db n) → IsPermutation (after ++ []) (rows_of (all_applied changes db) n)
forward_as before mid after n changes same forward db there was =
    subst (λ (l : List Row). IsPermutation l (rows_of (all_applied changes db) n)) (sym (append-nil after))
    (forward db there (IsPermutation-trans mid before (rows_of db n) same was))
